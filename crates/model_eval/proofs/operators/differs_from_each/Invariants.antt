use Rattle.std.proofs.Common.{◌≡◌, drop}
use Rattle.smt_meaning.specs.Term.{with_each, differ}
use Rattle.model_eval.proofs.operators.differs_from_each.Given as goal

abbrev pub invariant-loop-b : goal.invariant-loop-b
invariant-loop-b l = with_each differ l.a (drop l.b-index l.rest) ≡ with_each differ l.a l.rest
