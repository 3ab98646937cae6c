use Rattle.std.proofs.Common.{◌≡◌, ◌++◌, drop}
use Rattle.clause_form.specs.NodeClauses.{premises}
use Rattle.clause_form.specs.Plain.{signs}
use Rattle.clause_form.proofs.inputs.add_premises.Given as goal

abbrev pub invariant-loop-i : goal.invariant-loop-i
invariant-loop-i l = (signs l.inputs.items ++ premises (drop l.i l.numbers)) ≡ (signs l.fn.inputs.items ++ premises l.numbers)
