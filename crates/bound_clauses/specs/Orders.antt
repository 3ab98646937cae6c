-- Which bounds compare the arguments of a comparison of Ints.
use Rattle.std.specs.Prelude.{ℕ, Bool, List, [], ◌∷◌, ℤ, int_le, int_lt}
use Rattle.smt_meaning.specs.declared.values.Value.{Value}
use Rattle.smt_meaning.specs.declared.terms.Operator.{Operator}
use Rattle.smt_meaning.specs.declared.terms.Operator.TheVariants.{AtMost, Less, AtLeast, Greater}
use Rattle.smt_meaning.specs.declared.clauses.Atom.{Atom}
use Rattle.smt_meaning.specs.Term.{Tree, tree_at, compare}
use Rattle.smt_meaning.specs.Atoms.{at_most_atom, below_atom}
use Rattle.bound_clauses.specs.declared.orders.Sense.{Sense}
use Rattle.bound_clauses.specs.declared.orders.Sense.TheVariants.{NotAbove, Below}
use Rattle.bound_clauses.specs.declared.orders.Order.{Order}

abbrev pub order : Sense → ℕ → ℕ → Order
order s i j = record { sense = s; lesser = i; greater = j }

-- of each place and the next
abbrev pub rising : Sense → ℕ → List ℕ → List Order
rising s i [] = []
rising s i (j ∷ js) = order s i j ∷ rising s j js

-- of each place and the one before it
abbrev pub falling : Sense → ℕ → List ℕ → List Order
falling s i [] = []
falling s i (j ∷ js) = order s j i ∷ falling s j js

-- those that a comparison of the terms at these places says of its neighbours
abbrev pub order_atoms : Operator → List ℕ → List Order
order_atoms AtMost (i ∷ is) = rising NotAbove i is
order_atoms Less (i ∷ is) = rising Below i is
order_atoms AtLeast (i ∷ is) = falling NotAbove i is
order_atoms Greater (i ∷ is) = falling Below i is
order_atoms o is = []

-- both that the equality of two Ints says
abbrev pub both_orders : ℕ → ℕ → List Order
both_orders i j = order NotAbove i j ∷ order NotAbove j i ∷ []

-- ---- what they say

abbrev pub test_of : Sense → ℤ → ℤ → Bool
test_of NotAbove = int_le
test_of Below = int_lt

-- whether it holds of the values of places
abbrev pub order_holds : (ℕ → Value) → Order → Bool
order_holds v o = compare (test_of o.sense) (v o.lesser) (v o.greater)

abbrev pub atom_of : Sense → List Tree → Tree → Tree → Atom
atom_of NotAbove = at_most_atom
atom_of Below = below_atom

-- the bound that says it
abbrev pub bound_atom : List Tree → Order → Atom
bound_atom ts o = atom_of o.sense ts (tree_at ts o.lesser) (tree_at ts o.greater)
