use Rattle.std.proofs.Common.{◌≡◌, take}
use Rattle.proof_terms.specs.FormValues.{is_odd}
use Rattle.proof_terms.proofs.form_values.odd.Given as goal

abbrev pub invariant-loop-value : goal.invariant-loop-value
invariant-loop-value l = l.odd ≡ is_odd (take l.value-index l.values)
