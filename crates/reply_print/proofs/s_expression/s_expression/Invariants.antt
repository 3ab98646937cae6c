use Rattle.std.proofs.Common.{◌≡◌, ◌++◌, drop, false}
use Rattle.reply_print.specs.Pieces.{flat_text}
use Rattle.reply_print.proofs.s_expression.s_expression.Given as goal

abbrev pub invariant-loop-place : goal.invariant-loop-place
invariant-loop-place l = l.out ++ flat_text l.gap (drop l.place l.sexpr) ≡ l.initial.out ++ flat_text false l.sexpr
