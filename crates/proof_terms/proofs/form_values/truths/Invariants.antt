use Rattle.std.proofs.Common.{◌≡◌, take, map}
use Rattle.proof_terms.specs.FormValues.{chosen}
use Rattle.proof_terms.proofs.form_values.truths.Given as goal

abbrev pub invariant-loop-part : goal.invariant-loop-part
invariant-loop-part l = l.values.items ≡ map (chosen l.codes l.rest l.turned) (take l.part-index l.parts)
