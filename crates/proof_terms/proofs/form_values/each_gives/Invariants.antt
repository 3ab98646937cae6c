use Rattle.std.proofs.Common.{take, All}
use Rattle.proof_terms.specs.FormValues.{GivesAt}
use Rattle.proof_terms.proofs.form_values.each_gives.Given as goal

abbrev pub invariant-loop-part : goal.invariant-loop-part
invariant-loop-part l = All (GivesAt l.connective l.codes l.parts l.sign) (take l.part-index l.parts)
