use Rattle.std.proofs.Common.{take, All}
use Rattle.proof_terms.specs.FormValues.{IsFree}
use Rattle.proof_terms.proofs.form_values.free_part.Given as goal

abbrev pub invariant-loop-part : goal.invariant-loop-part
invariant-loop-part l = All (λ n. IsFree l.codes n → ⊥) (take l.part-index l.parts)
