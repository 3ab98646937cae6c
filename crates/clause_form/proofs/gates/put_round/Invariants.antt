use Rattle.std.proofs.Common.{◌≡◌, ◌++◌, drop}
use Rattle.clause_form.specs.WideClauses.{round}
use Rattle.clause_form.specs.Node.{plain}
use Rattle.clause_form.specs.Plain.{signs, sign_lists}
use Rattle.clause_form.proofs.gates.put_round.Given as goal

abbrev pub invariant-loop-other : goal.invariant-loop-other
invariant-loop-other l = (sign_lists l.clauses ++ round (plain l.out) (plain l.first) (plain l.before) (signs (drop l.other-index l.others))) ≡ (sign_lists l.fn.clauses ++ round (plain l.out) (plain l.first) (plain l.first) (signs l.others))
