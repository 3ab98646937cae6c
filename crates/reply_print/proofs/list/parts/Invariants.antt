use Rattle.std.proofs.Common.{◌≡◌, ◌++◌, drop, map, true}
use Rattle.reply_print.specs.Pieces.{rest_of_list}
use Rattle.reply_print.proofs.list.parts.Given as goal

abbrev pub invariant-loop-part : goal.invariant-loop-part
invariant-loop-part g l =
    l.out ++ rest_of_list l.first (map g.T.Print.text (drop l.part-index l.items)) ≡ l.initial.out ++ rest_of_list true (map g.T.Print.text l.items)
