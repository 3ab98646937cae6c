use Rattle.std.proofs.Common.{◌≡◌, length, arith}
use Rattle.order_clauses.proofs.Counting.{distinct_none}
use Rattle.order_clauses.proofs.pairs.add_pairs.Goals as goal

pub returns-in-empty-clause-counted : goal.returns-in-empty-clause-counted
returns-in-empty-clause-counted g c =
    let size : length c.args.places.now ≡ 0 = omega (arith, c.in-empty.len_below) in
    let nothing = distinct_none c.args.operator (length c.args.places.now) size in
    omega arith
