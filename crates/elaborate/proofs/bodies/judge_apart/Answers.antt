use Rattle.std.proofs.Common.{refl}
use Rattle.smt_meaning.specs.Sexp.{sexp}
use Rattle.smt_sorts.specs.Names.{signature}
use Rattle.elaborate.proofs.Bodied.{all_bound, judged_so}
use Rattle.elaborate.proofs.Left.{apart_begins}
use Rattle.elaborate.proofs.bodies.judge_apart.Goals as goal

pub judge_term-requires-clause-bound : goal.judge_term-requires-clause-bound
judge_term-requires-clause-bound c = all_bound c.add_places.new.store.trees c.args.apart.now.parameters c.args.parameters.now c.in-Ok-bind.bindings c.in-Ok.ensures c.requires.parameters c.in-Ok-bind.ensures

pub judge_term-requires-clause-apart : goal.judge_term-requires-clause-apart
judge_term-requires-clause-apart c = apart_begins (signature c.args.table.now) c.add_places.new.store.trees c.args.apart.now.parameters c.args.apart.now c.in-Ok.ensures refl c.requires.none c.requires.count c.requires.kept c.requires.untaken

pub returns-clause-comes : goal.returns-clause-comes
returns-clause-comes c =
    judged_so c.add_places.new.store.trees c.judge_term.new.store.trees c.args.apart.now.parameters c.args.parameters.now c.in-Ok-bind.bindings (sexp c.args.term.now) c.args.table.now c.judge_term.result c.in-Ok.ensures c.requires.parameters c.in-Ok-bind.ensures c.judge_term.ensures.comes
