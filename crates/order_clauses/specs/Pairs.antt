-- Which terms the equalities of a part compare.
use Rattle.std.specs.Prelude.{ℕ, List, [], ◌∷◌, ◌++◌}
use Rattle.smt_meaning.specs.declared.terms.Operator.{Operator}
use Rattle.smt_meaning.specs.declared.terms.Operator.TheVariants.{Equal, Distinct}
use Rattle.smt_meaning.specs.declared.clauses.Atom.{Atom}
use Rattle.smt_meaning.specs.declared.clauses.Atom.TheVariants.{Same}
use Rattle.bound_clauses.specs.declared.orders.Order.{Order}
use Rattle.bound_clauses.specs.Orders.{both_orders}
use Rattle.order_clauses.specs.declared.pairs.Pair.{Pair}

abbrev pub pair : ℕ → ℕ → Pair
pair i j = record { left = i; right = j }

-- of each place and the next
abbrev pub neighbours : ℕ → List ℕ → List Pair
neighbours i [] = []
neighbours i (j ∷ js) = pair i j ∷ neighbours j js

-- of one place and each of these
abbrev pub with_each : ℕ → List ℕ → List Pair
with_each i [] = []
with_each i (j ∷ js) = pair i j ∷ with_each i js

-- of each two
abbrev pub each_two : List ℕ → List Pair
each_two [] = []
each_two (i ∷ is) = with_each i is ++ each_two is

-- those that `=` or `distinct` of the terms at these places compares
abbrev pub pairs_of : Operator → List ℕ → List Pair
pairs_of Equal (i ∷ is) = neighbours i is
pairs_of Distinct is = each_two is
pairs_of o is = []

-- the atom that says that the two are equal
abbrev pub same_atom : Pair → Atom
same_atom q = Same q.left q.right

-- the orders that this says of Ints
abbrev pub orders_of_pair : Pair → List Order
orders_of_pair q = both_orders q.left q.right
