use Rattle.std.proofs.Common.{◌≡◌, ◌++◌, drop}
use Rattle.clause_form.specs.Node.{plain}
use Rattle.clause_form.specs.Plain.{signs, sign_lists, pairs}
use Rattle.clause_form.proofs.gates.put_pairs.Given as goal

abbrev pub invariant-loop-input : goal.invariant-loop-input
invariant-loop-input l = (sign_lists l.clauses ++ pairs (plain l.out) (signs (drop l.input-index l.inputs))) ≡ (sign_lists l.fn.clauses ++ pairs (plain l.out) (signs l.inputs))
