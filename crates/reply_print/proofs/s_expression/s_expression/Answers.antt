use Rattle.std.proofs.Common.{arith}
use Rattle.reply_print.proofs.Flat.{all_told}
use Rattle.reply_print.proofs.s_expression.s_expression.Goals as goal

pub returns : goal.returns
returns c =
    let sexpr = c.args.sexpr.now in
    let is_sexp = c.s_expressions_read_back.ensures sexpr c.len-place-end.ensures.matched in
    all_told _ _ _ sexpr c.loop-place.place (omega arith) is_sexp.0 c.loop-place.invariant
