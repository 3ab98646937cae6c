use Rattle.std.proofs.Common.{refl, sym, subst, None}
use Rattle.smt_laws.proofs.SExprLaw.{read_back}
use Rattle.elaborate.specs.Judged.{scope_of, rules_of}
use Rattle.elaborate.specs.Frames.{AllHold, OthersWait}
use Rattle.elaborate.proofs.Runs.{judged_answer, judged_unfinished, judged_refused}
use Rattle.elaborate.proofs.read.judge_term.Goals as goal

pub read-requires-clause-stands : goal.read-requires-clause-stands
read-requires-clause-stands c = record { answer = tt; frames = subst (AllHold (scope_of c.args.table.now c.args.store.now.trees)) (sym c.new.ensures) tt; others = subst OthersWait (sym c.new.ensures) tt; bindings = c.requires.bound }

pub returns-in-Some-clause-comes : goal.returns-in-Some-clause-comes
returns-in-Some-clause-comes c =
    judged_answer c.walk_gives_the_judgement.ensures (rules_of c.args.rules) c.args.term.now (scope_of c.args.table.now c.args.store.now.trees) (record { answer = None; frames = c.new.result; bindings = c.args.bindings }) c.read.new.walk c.read.new.store.trees c.in-Some.value tt (read_back c.args.term.now c.len.ensures.matched).0 refl c.new.ensures c.in-Ok.ensures.comes c.in-Some.is

pub returns-in-Ok-clause-comes : goal.returns-in-Ok-clause-comes
returns-in-Ok-clause-comes c =
    judged_unfinished c.walk_gives_the_judgement.ensures (rules_of c.args.rules) c.args.term.now (scope_of c.args.table.now c.args.store.now.trees) (record { answer = None; frames = c.new.result; bindings = c.args.bindings }) c.read.new.walk c.read.new.store.trees tt (read_back c.args.term.now c.len.ensures.matched).0 refl c.new.ensures c.in-Ok.ensures.comes c.in-None.is

pub returns-clause-comes : goal.returns-clause-comes
returns-clause-comes c =
    judged_refused c.walk_gives_the_judgement.ensures (rules_of c.args.rules) c.args.term.now (scope_of c.args.table.now c.args.store.now.trees) (scope_of c.args.table.now c.read.new.store.trees) (record { answer = None; frames = c.new.result; bindings = c.args.bindings }) c.read.new.walk c.read.new.store.trees c.in-Err.error (read_back c.args.term.now c.len.ensures.matched).0 refl c.new.ensures c.in-Err.ensures.comes
