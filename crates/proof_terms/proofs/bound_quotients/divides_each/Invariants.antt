use Rattle.proof_terms.proofs.BoundJoining.{AreDividing}
use Rattle.proof_terms.proofs.bound_quotients.divides_each.Given as goal

abbrev pub invariant-loop-summand : goal.invariant-loop-summand
invariant-loop-summand l = AreDividing l.divisor l.sum l.summand-index
