use Rattle.std.proofs.Common.{◌≡◌, ◌++◌, drop}
use Rattle.bound_clauses.specs.Orders.{rising}
use Rattle.bound_clauses.proofs.orders.add_rising.Given as goal

abbrev pub invariant-loop-place : goal.invariant-loop-place
invariant-loop-place l = (l.orders.items ++ rising l.sense l.before (drop l.place-index l.others)) ≡ (l.fn.orders.items ++ rising l.sense l.first l.others)
