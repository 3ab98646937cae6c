use Rattle.std.specs.List.{AllWithin}
use Rattle.proof_meaning.specs.Proof.{IsSummand}
use Rattle.proof_terms.proofs.literals.are_summands.Given as goal

abbrev pub invariant-loop-summand : goal.invariant-loop-summand
invariant-loop-summand l = AllWithin (IsSummand l.terms.declared l.terms.trees) l.sum 0 l.summand-index
