use Rattle.std.proofs.Common.{[], ◌∷◌, ◌++◌, codes, false}
use Rattle.smt_meaning.specs.Text.{equations_from}
use Rattle.reply_print.specs.Pieces.{rest_of_list}
use Rattle.reply_print.proofs.Appends.{appended}
use Rattle.reply_print.proofs.Models.{conjunction_many}
use Rattle.reply_print.proofs.model.conjunction.Goals as goal

pub returns : goal.returns
returns c =
    let vs = c.args.arguments.now in
    let start = c.args.out.now in
    let mid = c.append.new.self in
    let new = c.push.new.self in
    let equations = rest_of_list false (equations_from 0 vs) in
    rw (conjunction_many vs c.if-arguments-eq1.false)
    (appended c.push.result start mid new (codes "(and") (equations ++ 41 ∷ []) c.in_ok-append.ensures.ok
    (appended c.push.result mid c.equations.new.out new equations (41 ∷ []) c.in_ok-equations.ensures c.push.ensures.ok))
