use Rattle.proof_form.proofs.FarkasMaking.{AreAdding}
use Rattle.proof_form.proofs.farkas_entries.add_parts.Given as goal

abbrev pub invariant-loop-part : goal.invariant-loop-part
invariant-loop-part l = AreAdding l.weighted l.fn.entries.items l.part-index l.constant l.entries.items
