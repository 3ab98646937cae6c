use Rattle.std.proofs.Common.{sym, drop, ◌+◌}
use Rattle.smt_meaning.specs.Sexp.{open_lists_of}
use Rattle.smt_meaning.specs.Seen.{seen}
use Rattle.smt_laws.specs.Walk.{first_list}
use Rattle.elaborate.specs.Judged.{scope_of, rules_of}
use Rattle.elaborate.specs.Frames.{walk_of}
use Rattle.elaborate.proofs.Runs.{step_leave, step_word}
use Rattle.elaborate.proofs.apart.step_apart.Goals as goal

pub returns-then-is_argument-clause-comes : goal.returns-then-is_argument-clause-comes
returns-then-is_argument-clause-comes c = λ t e.
    step_leave (rules_of c.args.rules) (walk_of c.args.term.now (scope_of c.args.table.now c.args.store.now.trees) c.args.walk.now) t (seen c.token-token.result) (drop (c.args.place + 1) c.args.term.now) (drop (c.args.place + 1) c.args.term.now) (drop c.args.place c.args.term.now) (open_lists_of (drop (c.args.place + 1) c.args.term.now)) (scope_of c.args.table.now c.args.store.now.trees) c.args.term.now (scope_of c.args.table.now c.leave_apart.new.store.trees) c.leave_apart.new.walk c.leave_apart.result e
    c.token-token.ensures.rest (sym c.in-Closing.ensures) (c.leave_apart.ensures.comes c.args.term.now)

pub returns-then-awaits_term-clause-comes : goal.returns-then-awaits_term-clause-comes
returns-then-awaits_term-clause-comes c = λ t e.
    step_word (rules_of c.args.rules) (walk_of c.args.term.now (scope_of c.args.table.now c.args.store.now.trees) c.args.walk.now) t (seen c.token-token.result) (drop (c.args.place + 1) c.args.term.now) (drop (c.args.place + 1) c.args.term.now) (drop c.args.place c.args.term.now) (open_lists_of (drop (c.args.place + 1) c.args.term.now)) (scope_of c.args.table.now c.args.store.now.trees) c.args.term.now (scope_of c.args.table.now c.word_apart.new.store.trees) c.word_apart.new.walk c.word_apart.result e
    c.token-token.ensures.rest (sym c.in-Word.ensures) (c.word_apart.ensures.comes c.args.term.now (first_list (open_lists_of (drop (c.args.place + 1) c.args.term.now))))
