use Rattle.std.proofs.Common.{◌≡◌, ◌++◌, map, take, All, Contains}
use Rattle.std.specs.Prelude.{flat_map}
use Rattle.bound_clauses.specs.Orders.{bound_atom}
use Rattle.order_clauses.specs.Clauses.{bound_number, of_bound}
use Rattle.order_clauses.proofs.bounds.put_bounds.Given as goal

abbrev pub ghost-put_bound : goal.ghost-put_bound
ghost-put_bound g a = g.trees

abbrev pub invariant-loop-order : goal.invariant-loop-order
invariant-loop-order g l =
    (l.forms ≡ l.fn.forms)
    × (l.numbers.items ≡ map (bound_number g.trees l.atoms.atoms) (take l.order-index l.orders))
    × All (λ o. Contains l.atoms.atoms (bound_atom g.trees o)) (take l.order-index l.orders)
    × (l.clauses ≡ l.fn.clauses ++ flat_map (of_bound g.trees l.atoms.atoms) (take l.order-index l.orders))
