use Rattle.std.specs.Prelude.{negsuc, ◌*ℤ◌}
use Rattle.smt_meaning.specs.declared.clauses.Summand.{Summand}
use Rattle.smt_meaning.specs.Linear.{summand}
use Rattle.pair_bounds.proofs.Mapping.{IsMapping}
use Rattle.pair_bounds.proofs.turning.negate.Given as goal

abbrev pub invariant-loop-summand : goal.invariant-loop-summand
invariant-loop-summand l = IsMapping (λ (p : Summand). summand p.term (negsuc 0 *ℤ p.coefficient)) l.fn.sum l.summand-index l.sum
