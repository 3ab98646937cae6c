use Rattle.std.proofs.Common.{refl, sym, subst, None}
use Rattle.smt_laws.proofs.SExprLaw.{read_back}
use Rattle.elaborate.specs.Judged.{scope_of, rules_of}
use Rattle.elaborate.specs.Frames.{AllHold, OthersWait, AreBound}
use Rattle.elaborate.proofs.Named.{term_answer, term_unfinished, term_refused}
use Rattle.elaborate.proofs.naming.judge_named.Goals as goal

pub read_named-requires-clause-stands : goal.read_named-requires-clause-stands
read_named-requires-clause-stands c = record { answer = tt; frames = subst (AllHold (scope_of c.args.table.now c.args.store.now.trees)) (sym c.new.ensures) tt; others = subst OthersWait (sym c.new.ensures) tt; bindings = subst (AreBound c.args.store.now.trees) (sym c.new-2.ensures) tt }

pub returns-in-Some-clause-comes : goal.returns-in-Some-clause-comes
returns-in-Some-clause-comes c =
    term_answer c.walk_gives_the_judgement.ensures (rules_of c.args.rules) c.args.term.now (scope_of c.args.table.now c.args.store.now.trees) (scope_of c.read_named.new.table c.read_named.new.store.trees) (record { answer = None; frames = c.new.result; bindings = c.new-2.result }) c.read_named.new.walk c.in-Some.value tt (read_back c.args.term.now c.len.ensures.matched).0 refl c.new.ensures c.new-2.ensures c.in-Ok.ensures.comes c.in-Some.is

pub returns-in-Ok-clause-comes : goal.returns-in-Ok-clause-comes
returns-in-Ok-clause-comes c =
    term_unfinished c.walk_gives_the_judgement.ensures (rules_of c.args.rules) c.args.term.now (scope_of c.args.table.now c.args.store.now.trees) (scope_of c.read_named.new.table c.read_named.new.store.trees) (record { answer = None; frames = c.new.result; bindings = c.new-2.result }) c.read_named.new.walk tt (read_back c.args.term.now c.len.ensures.matched).0 refl c.new.ensures c.new-2.ensures c.in-Ok.ensures.comes c.in-None.is

pub returns-clause-comes : goal.returns-clause-comes
returns-clause-comes c =
    term_refused c.walk_gives_the_judgement.ensures (rules_of c.args.rules) c.args.term.now (scope_of c.args.table.now c.args.store.now.trees) (scope_of c.read_named.new.table c.read_named.new.store.trees) (scope_of c.read_named.new.table c.read_named.new.store.trees) (record { answer = None; frames = c.new.result; bindings = c.new-2.result }) c.read_named.new.walk c.in-Err.error (read_back c.args.term.now c.len.ensures.matched).0 refl c.new.ensures c.new-2.ensures c.in-Err.ensures.comes
