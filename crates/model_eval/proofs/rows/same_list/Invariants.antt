use Rattle.std.proofs.Common.{◌≡◌, length, drop}
use Rattle.smt_meaning.specs.Interpretation.{same_values}
use Rattle.model_eval.proofs.rows.same_list.Given as goal

abbrev pub invariant-loop-i : goal.invariant-loop-i
invariant-loop-i l = record { same_length : length l.a ≡ length l.b; rest : same_values (drop l.i l.a) (drop l.i l.b) ≡ same_values l.a l.b }
