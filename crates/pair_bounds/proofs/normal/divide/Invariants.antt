use Rattle.smt_meaning.specs.declared.clauses.Summand.{Summand}
use Rattle.smt_meaning.specs.Linear.{summand}
use Rattle.smt_meaning.specs.Atoms.{divided}
use Rattle.pair_bounds.proofs.Mapping.{IsMapping}
use Rattle.pair_bounds.proofs.normal.divide.Given as goal

abbrev pub invariant-loop-summand : goal.invariant-loop-summand
invariant-loop-summand l = IsMapping (λ (p : Summand). summand p.term (divided p.coefficient l.fn.divisor)) l.fn.sum l.summand-index l.sum
