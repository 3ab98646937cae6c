use Rattle.std.proofs.Common.{take}
use Rattle.proof_terms.specs.FormValues.{IsWaiting}
use Rattle.proof_terms.proofs.form_values.odd_part.Given as goal

abbrev pub invariant-loop-number : goal.invariant-loop-number
invariant-loop-number l = IsWaiting l.codes (take l.number-index l.sorted) l.odd
