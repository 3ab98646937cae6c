use Rattle.std.proofs.Common.{◌≡◌, ◌++◌, drop}
use Rattle.order_clauses.specs.Pairs.{neighbours}
use Rattle.order_clauses.proofs.pairs.add_neighbours.Given as goal

abbrev pub invariant-loop-place : goal.invariant-loop-place
invariant-loop-place l = (l.pairs.items ++ neighbours l.before (drop l.place-index l.others)) ≡ (l.fn.pairs.items ++ neighbours l.first l.others)
