use Rattle.std.proofs.Common.{sym}
use Rattle.smt_meaning.specs.Sexp.{open_lists_of}
use Rattle.smt_meaning.specs.Seen.{seen}
use Rattle.std.proofs.Common.{drop, ◌+◌}
use Rattle.elaborate.specs.Judged.{scope_of, rules_of}
use Rattle.elaborate.specs.Frames.{walk_of}
use Rattle.elaborate.proofs.Runs.{step_enter, step_leave, step_word}
use Rattle.elaborate.proofs.naming.turn.Goals as goal

pub returns-in-Opening-clause-comes : goal.returns-in-Opening-clause-comes
returns-in-Opening-clause-comes c = λ t e.
    step_enter (rules_of c.args.rules) (walk_of c.args.term.now (scope_of c.args.table.now c.args.store.now.trees) c.args.walk.now) t (seen c.token-token.result) (drop (c.args.place + 1) c.args.term.now) (drop (c.args.place + 1) c.args.term.now) (drop c.args.place c.args.term.now) (open_lists_of (drop (c.args.place + 1) c.args.term.now)) (scope_of c.args.table.now c.args.store.now.trees) c.args.term.now (scope_of c.args.table.now c.args.store.now.trees) c.enter.new.walk c.enter.result e c.token-token.ensures.rest
    (sym c.in-Opening.ensures) (c.enter.ensures (scope_of c.args.table.now c.args.store.now.trees) c.requires.stands)

pub returns-in-Closing-clause-comes : goal.returns-in-Closing-clause-comes
returns-in-Closing-clause-comes c = λ t e.
    step_leave (rules_of c.args.rules) (walk_of c.args.term.now (scope_of c.args.table.now c.args.store.now.trees) c.args.walk.now) t (seen c.token-token.result) (drop (c.args.place + 1) c.args.term.now) (drop (c.args.place + 1) c.args.term.now) (drop c.args.place c.args.term.now) (open_lists_of (drop (c.args.place + 1) c.args.term.now)) (scope_of c.args.table.now c.args.store.now.trees) c.args.term.now (scope_of c.args.table.now c.leave.new.store.trees) c.leave.new.walk c.leave.result e
    c.token-token.ensures.rest (sym c.in-Closing.ensures) (c.leave.ensures.comes c.args.term.now)

pub returns-in-Word-clause-comes : goal.returns-in-Word-clause-comes
returns-in-Word-clause-comes c = λ t e.
    step_word (rules_of c.args.rules) (walk_of c.args.term.now (scope_of c.args.table.now c.args.store.now.trees) c.args.walk.now) t (seen c.token-token.result) (drop (c.args.place + 1) c.args.term.now) (drop (c.args.place + 1) c.args.term.now) (drop c.args.place c.args.term.now) (open_lists_of (drop (c.args.place + 1) c.args.term.now)) (scope_of c.args.table.now c.args.store.now.trees) c.args.term.now (scope_of c.word_or_name.new.table c.word_or_name.new.store.trees) c.word_or_name.new.walk c.word_or_name.result e
    c.token-token.ensures.rest (sym c.in-Word.ensures) c.word_or_name.ensures.comes
