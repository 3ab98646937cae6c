use Rattle.std.proofs.Common.{◌≡◌, drop}
use Rattle.std.specs.Prelude.{IsTrue}
use Rattle.smt_meaning.specs.Term.{left_assoc, fold_left, partials_from, partials_of, all_in_range, in_range}
use Rattle.model_eval.specs.Fitted.{binary}
use Rattle.model_eval.proofs.operators.fold.Given as goal

abbrev pub invariant-loop-i : goal.invariant-loop-i
invariant-loop-i l = record {
  sum : fold_left (binary l.operator) l.sum (drop l.i l.arguments) ≡ left_assoc (binary l.operator) l.arguments;
  parts : all_in_range (partials_from (binary l.operator) l.sum (drop l.i l.arguments)) ≡ all_in_range (partials_of (binary l.operator) l.arguments);
  fits : IsTrue (in_range l.sum);
}
