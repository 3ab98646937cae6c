use Rattle.std.proofs.Common.{◌≡◌, ◌++◌, drop, map}
use Rattle.clause_form.specs.Signs.{negated}
use Rattle.clause_form.specs.Plain.{signs}
use Rattle.clause_form.proofs.gates.add_opposites.Given as goal

abbrev pub invariant-loop-input : goal.invariant-loop-input
invariant-loop-input l = (signs l.literals.items ++ map negated (signs (drop l.input-index l.inputs))) ≡ (signs l.fn.literals.items ++ map negated (signs l.inputs))
