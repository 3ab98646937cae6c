use Rattle.std.proofs.Common.{◌≡◌, ◌++◌, drop, true, nat_eq}
use Rattle.smt_meaning.specs.Text.{parameters_from}
use Rattle.reply_print.specs.Pieces.{rest_of_list}
use Rattle.reply_print.proofs.model.parameters.Given as goal

abbrev pub invariant-loop-place : goal.invariant-loop-place
invariant-loop-place l =
    l.out ++ rest_of_list (nat_eq l.place 0) (parameters_from l.place (drop l.place l.sorts)) ≡ l.initial.out ++ rest_of_list true (parameters_from 0 l.sorts)
