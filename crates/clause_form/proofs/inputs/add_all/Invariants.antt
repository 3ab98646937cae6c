use Rattle.std.proofs.Common.{◌≡◌, ◌++◌, drop, map}
use Rattle.clause_form.specs.Signs.{sign}
use Rattle.clause_form.specs.Plain.{signs}
use Rattle.clause_form.proofs.inputs.add_all.Given as goal

abbrev pub invariant-loop-number : goal.invariant-loop-number
invariant-loop-number l = (signs l.inputs.items ++ map (λ i. sign i l.positive) (drop l.number-index l.numbers)) ≡ (signs l.fn.inputs.items ++ map (λ i. sign i l.positive) l.numbers)
