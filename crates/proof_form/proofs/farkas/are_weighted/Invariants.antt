use Rattle.std.specs.List.{AllWithin}
use Rattle.proof_terms.specs.Range.{IsWeighted}
use Rattle.proof_form.proofs.farkas.are_weighted.Given as goal

abbrev pub invariant-loop-part : goal.invariant-loop-part
invariant-loop-part l = AllWithin (IsWeighted l.terms.declared l.terms.trees) l.weighted 0 l.part-index
