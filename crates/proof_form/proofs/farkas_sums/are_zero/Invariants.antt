use Rattle.proof_form.proofs.FarkasMaking.{AreZeroing}
use Rattle.proof_form.proofs.farkas_sums.are_zero.Given as goal

abbrev pub invariant-loop-entry : goal.invariant-loop-entry
invariant-loop-entry l = AreZeroing l.entries l.entry-index l.last l.sum l.vanish
