use Rattle.std.proofs.Common.{◌≡◌, ◌++◌, drop, false}
use Rattle.smt_meaning.specs.Text.{equations_from}
use Rattle.reply_print.specs.Pieces.{rest_of_list}
use Rattle.reply_print.proofs.model.equations.Given as goal

abbrev pub invariant-loop-place : goal.invariant-loop-place
invariant-loop-place l =
    l.out ++ rest_of_list false (equations_from l.place (drop l.place l.arguments)) ≡ l.initial.out ++ rest_of_list false (equations_from 0 l.arguments)
