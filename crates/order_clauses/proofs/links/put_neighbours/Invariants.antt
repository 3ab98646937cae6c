use Rattle.std.proofs.Common.{◌≡◌, ◌++◌, ◌<◌, ◌^◌, drop}
use Rattle.order_clauses.specs.Links.{between_neighbours}
use Rattle.order_clauses.proofs.links.put_neighbours.Given as goal

abbrev pub invariant-loop-link : goal.invariant-loop-link
invariant-loop-link l =
    (l.before.number < 2 ^ 31)
    × ((l.clauses ++ between_neighbours l.before (drop l.link-index l.others)) ≡ (l.fn.clauses ++ between_neighbours l.fn.first l.others))
