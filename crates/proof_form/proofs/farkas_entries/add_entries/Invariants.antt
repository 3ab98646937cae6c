use Rattle.proof_form.proofs.FarkasMaking.{IsMaking}
use Rattle.proof_form.proofs.farkas_entries.add_entries.Given as goal

abbrev pub invariant-loop-summand : goal.invariant-loop-summand
invariant-loop-summand l = IsMaking l.multiplier l.positive l.sum l.fn.entries.items l.summand-index l.entries.items
