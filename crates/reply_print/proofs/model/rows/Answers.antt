use Rattle.std.proofs.Common.{◌++◌, length}
use Rattle.std.specs.List.{flat_map}
use Rattle.smt_meaning.specs.Text.{value_text}
use Rattle.reply_print.specs.Pieces.{row_head}
use Rattle.reply_print.proofs.Appends.{appended}
use Rattle.reply_print.proofs.Models.{rows_are, ends}
use Rattle.reply_print.proofs.model.rows.Goals as goal

pub returns : goal.returns
returns c =
    let rs = c.args.rows.now in
    let start = c.args.out.now in
    let mid = c.row_heads.new.out in
    let new = c.close.new.out in
    let default = value_text c.args.default.now in
    rw (rows_are rs c.args.default.now)
    (appended c.close.result start mid new (flat_map row_head rs) (default ++ ends (length rs)) c.in_ok-row_heads.ensures
    (appended c.close.result mid c.value.new.out new default (ends (length rs)) c.in_ok-value.ensures c.close.ensures))
