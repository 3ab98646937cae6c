-- The pairs that a part compares.
use Rattle.std.proofs.Common.{◌≡◌, ℕ, List, [], ◌∷◌, ◌++◌, map, All, refl, ap, ◌∙◌}
use Rattle.std.proofs.lemmas.List.{map-append}
use Rattle.std.proofs.lemmas.List.Elements.{All-cons, All-nil, All-head, All-tail, All-append}
use Rattle.smt_meaning.specs.declared.terms.Operator.{Operator}
use Rattle.smt_meaning.specs.declared.terms.Operator.TheVariants.{Equal, Distinct, AtMost, Less, AtLeast, Greater}
use Rattle.smt_meaning.specs.declared.clauses.Atom.TheVariants.{Same}
use Rattle.equality_clauses.specs.Laws.{of_neighbours, of_first, of_pairs, compared}
use Rattle.bound_clauses.specs.declared.orders.Sense.{Sense}
use Rattle.bound_clauses.specs.declared.orders.Sense.TheVariants.{NotAbove, Below}
use Rattle.bound_clauses.specs.declared.orders.Order.{Order}
use Rattle.bound_clauses.specs.Orders.{order, rising, falling, order_atoms}
use Rattle.order_clauses.specs.declared.pairs.Pair.{Pair}
use Rattle.order_clauses.specs.Pairs.{pair, neighbours, with_each, each_two, pairs_of, same_atom}

-- ---- the atoms of their equalities

neighbours_atoms : (i : ℕ) (js : List ℕ) → map same_atom (neighbours i js) ≡ of_neighbours i js
neighbours_atoms i [] = refl
neighbours_atoms i (j ∷ js) = ap (λ as'. Same i j ∷ as') (neighbours_atoms j js)

with_each_atoms : (i : ℕ) (js : List ℕ) → map same_atom (with_each i js) ≡ of_first i js
with_each_atoms i [] = refl
with_each_atoms i (j ∷ js) = ap (λ as'. Same i j ∷ as') (with_each_atoms i js)

each_two_atoms : (is : List ℕ) → map same_atom (each_two is) ≡ of_pairs is
each_two_atoms [] = refl
each_two_atoms (i ∷ is) =
    map-append same_atom (with_each i is) (each_two is) ∙ ap (λ as'. as' ++ map same_atom (each_two is)) (with_each_atoms i is) ∙ ap (λ as'. of_first i is ++ as') (each_two_atoms is)

pub pairs_atoms : (o : Operator) (is : List ℕ) → map same_atom (pairs_of o is) ≡ compared o is
pairs_atoms Equal [] = refl
pairs_atoms Equal (i ∷ is) = neighbours_atoms i is
pairs_atoms Distinct is = each_two_atoms is
pairs_atoms o is = refl

-- ---- what holds of each place holds of both places of each pair

module _ (P : ℕ → Type 0) where
  abbrev Both : Pair → Type 0
  Both q = P q.left × P q.right

  neighbours_both : (i : ℕ) (js : List ℕ) → P i → All P js → All Both (neighbours i js)
  neighbours_both i [] h hs = All-nil Both
  neighbours_both i (j ∷ js) h hs =
      let next : P j = All-head P j js hs in All-cons Both (pair i j) (neighbours j js) (h, next) (neighbours_both j js next (All-tail P j js hs))

  with_each_both : (i : ℕ) (js : List ℕ) → P i → All P js → All Both (with_each i js)
  with_each_both i [] h hs = All-nil Both
  with_each_both i (j ∷ js) h hs = All-cons Both (pair i j) (with_each i js) (h, All-head P j js hs) (with_each_both i js h (All-tail P j js hs))

  each_two_both : (is : List ℕ) → All P is → All Both (each_two is)
  each_two_both [] hs = All-nil Both
  each_two_both (i ∷ is) hs =
      let rest : All P is = All-tail P i is hs in All-append Both (with_each i is) (each_two is) (with_each_both i is (All-head P i is hs) rest) (each_two_both is rest)

  pub pairs_both : (o : Operator) (is : List ℕ) → All P is → All (λ (q : Pair). P q.left × P q.right) (pairs_of o is)
  pairs_both Equal [] hs = All-nil Both
  pairs_both Equal (i ∷ is) hs = neighbours_both i is (All-head P i is hs) (All-tail P i is hs)
  pairs_both Distinct is hs = each_two_both is hs
  pairs_both o is hs = All-nil Both

-- ---- the same of both places of each order

module _ (P : ℕ → Type 0) where
  abbrev BothOf : Order → Type 0
  BothOf o = P o.lesser × P o.greater

  rising_both : (s : Sense) (i : ℕ) (js : List ℕ) → P i → All P js → All BothOf (rising s i js)
  rising_both s i [] h hs = All-nil BothOf
  rising_both s i (j ∷ js) h hs =
      let next : P j = All-head P j js hs in All-cons BothOf (order s i j) (rising s j js) (h, next) (rising_both s j js next (All-tail P j js hs))

  falling_both : (s : Sense) (i : ℕ) (js : List ℕ) → P i → All P js → All BothOf (falling s i js)
  falling_both s i [] h hs = All-nil BothOf
  falling_both s i (j ∷ js) h hs =
      let next : P j = All-head P j js hs in All-cons BothOf (order s j i) (falling s j js) (next, h) (falling_both s j js next (All-tail P j js hs))

  pub orders_both : (o : Operator) (is : List ℕ) → All P is → All (λ (q : Order). P q.lesser × P q.greater) (order_atoms o is)
  orders_both AtMost (i ∷ is) hs = rising_both NotAbove i is (All-head P i is hs) (All-tail P i is hs)
  orders_both Less (i ∷ is) hs = rising_both Below i is (All-head P i is hs) (All-tail P i is hs)
  orders_both AtLeast (i ∷ is) hs = falling_both NotAbove i is (All-head P i is hs) (All-tail P i is hs)
  orders_both Greater (i ∷ is) hs = falling_both Below i is (All-head P i is hs) (All-tail P i is hs)
  orders_both o is hs = All-nil BothOf
