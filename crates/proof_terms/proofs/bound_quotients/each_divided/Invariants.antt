use Rattle.std.proofs.Common.{◌≡◌, take}
use Rattle.smt_meaning.specs.Atoms.{each_divided}
use Rattle.proof_terms.proofs.bound_quotients.each_divided.Given as goal

abbrev pub invariant-loop-summand : goal.invariant-loop-summand
invariant-loop-summand l = l.quotients.items ≡ each_divided l.divisor (take l.summand-index l.sum)
