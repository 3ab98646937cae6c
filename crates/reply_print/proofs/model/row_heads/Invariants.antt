use Rattle.std.proofs.Common.{◌≡◌, ◌++◌, drop}
use Rattle.std.specs.List.{flat_map}
use Rattle.reply_print.specs.Pieces.{row_head}
use Rattle.reply_print.proofs.model.row_heads.Given as goal

abbrev pub invariant-loop-row : goal.invariant-loop-row
invariant-loop-row l = l.out ++ flat_map row_head (drop l.row-index l.rows) ≡ l.initial.out ++ flat_map row_head l.rows
