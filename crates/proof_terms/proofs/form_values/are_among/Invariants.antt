use Rattle.std.proofs.Common.{take, All}
use Rattle.proof_terms.specs.FormValues.{IsAmong}
use Rattle.proof_terms.proofs.form_values.are_among.Given as goal

abbrev pub invariant-loop-code : goal.invariant-loop-code
invariant-loop-code l = All (IsAmong l.own l.sorted) (take l.code-index l.codes)
