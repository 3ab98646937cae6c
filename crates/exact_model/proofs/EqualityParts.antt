-- `=`, `distinct` and `ite` of Ints have the values that their operators make.
use Rattle.std.proofs.Common.{◌≡◌, inl, inr, ℕ, true, List, [], ◌∷◌, ◌++◌, map, All, Contains, Some, refl, sym, ap, subst, ◌∙◌}
use Rattle.std.specs.Prelude.{Option, IsTrue, flat_map}
use Rattle.std.proofs.lemmas.List.{map-append}
use Rattle.std.proofs.lemmas.List.Elements.{All-nil, All-cons, All-head, All-tail, All-append}
use Rattle.smt_meaning.specs.declared.values.Value.TheVariants.{Truth}
use Rattle.smt_meaning.specs.declared.values.Sort.{Sort}
use Rattle.smt_meaning.specs.declared.values.Sort.TheVariants.{Bool as Truths, Int as Ints}
use Rattle.smt_meaning.specs.declared.terms.Operator.{Operator}
use Rattle.smt_meaning.specs.declared.terms.Operator.TheVariants.{Equal, Distinct, Ite}
use Rattle.smt_meaning.specs.declared.terms.Head.TheVariants.{Theory}
use Rattle.smt_meaning.specs.declared.clauses.Atom.{Atom}
use Rattle.smt_meaning.specs.declared.clauses.Atom.TheVariants.{Same}
use Rattle.smt_meaning.specs.Term.{truth_of, operate}
use Rattle.search_port.specs.State.{IsMadeTrue}
use Rattle.equality_clauses.specs.Ties.{comparison_clauses, choice_clauses}
use Rattle.equality_clauses.specs.Laws.{compares}
use Rattle.bound_clauses.specs.declared.orders.Sense.TheVariants.{NotAbove}
use Rattle.bound_clauses.specs.declared.orders.Order.{Order}
use Rattle.bound_clauses.specs.Orders.{order, order_holds, bound_atom}
use Rattle.bound_clauses.specs.Ties.{equal_clauses}
use Rattle.bound_clauses.specs.Laws.{IsNumber}
use Rattle.check_atoms.specs.Parts.{IsMarked}
use Rattle.check_atoms.specs.AssertedDistinct.{IsAssertedDistinct}
use Rattle.check_atoms.specs.PartAtoms.{atom_of, by_sort, alone_by_sort, neighbours_from, first_with, each_two as compared_pairs, of_equal, of_distinct, sort_of}
use Rattle.check_atoms.specs.OfStack.{IsNode}
use Rattle.order_clauses.specs.declared.pairs.Pair.{Pair}
use Rattle.order_clauses.specs.Pairs.{pair, neighbours, with_each, each_two, pairs_of, orders_of_pair}
use Rattle.order_clauses.specs.Clauses.{sort_at, truth_number, same_number, bound_number, of_bound, int_tie, equality_part, choice_part}
use Rattle.order_clauses.specs.Decided.{IsGiven, FitsOrders, AreNumbers, EqualityPartIsDecided, ChoicePartIsDecided}
use Rattle.order_clauses.proofs.Pairing.{pairs_both}
use Rattle.order_clauses.proofs.Soundness.{All-left, All-right, All-flat, All-unflat, All-both}
use Rattle.exact_model.specs.Operators.{HasValueOf}
use Rattle.exact_model.proofs.FullLogs.{Case, ts, ds, first, sort_there, number_exact, truth_given, truth_told}
use Rattle.exact_model.proofs.OrderParts.{v, orders_fit, orders_held}
use Rattle.exact_model.proofs.PartSorts.{HasListed, arguments_marked, ChoosesSorts, choice_sorts}

module _ (c : Case) where
  -- both bounds of a pair are numbered
  abbrev IsKnown : Pair → Type 0
  IsKnown q = Contains (first c) (bound_atom (ts c) (order NotAbove q.left q.right)) × Contains (first c) (bound_atom (ts c) (order NotAbove q.right q.left))

  abbrev IsTold : Order → Type 0
  IsTold o = IsGiven c.fitting.log (bound_number (ts c) (first c) o) (order_holds (v c) o)

  -- the clauses that tie it to these are made true
  abbrev IsTied : Pair → Type 0
  IsTied q = All (IsMadeTrue c.fitting.log) (int_tie (ts c) (first c) q)

  both_told : (q : Pair) → IsKnown q × IsTied q → All IsTold (orders_of_pair q)
  both_told q h =
      let below : Order = order NotAbove q.left q.right in
      let above : Order = order NotAbove q.right q.left in
      orders_fit c (below ∷ above ∷ [])
      (orders_held c (below ∷ above ∷ [])
      (All-cons (λ (o : Order). Contains (first c) (bound_atom (ts c) o)) below (above ∷ []) h.0.0
      (All-cons (λ (o : Order). Contains (first c) (bound_atom (ts c) o)) above [] h.0.1 (All-nil (λ (o : Order). Contains (first c) (bound_atom (ts c) o)))))
      (All-left (IsMadeTrue c.fitting.log) (flat_map (of_bound (ts c) (first c)) (orders_of_pair q))
      (equal_clauses (same_number (first c) q) (bound_number (ts c) (first c) below) (bound_number (ts c) (first c) above)) h.1))

  pairs_fit : (qs : List Pair) → All IsKnown qs → All (IsMadeTrue c.fitting.log) (flat_map (int_tie (ts c) (first c)) qs) → FitsOrders (v c) c.fitting.log (ts c) (first c) (flat_map orders_of_pair qs)
  pairs_fit qs known made =
      All-flat (λ q. IsKnown q × IsTied q) IsTold orders_of_pair both_told qs (All-both IsKnown IsTied qs known (All-unflat (IsMadeTrue c.fitting.log) (int_tie (ts c) (first c)) qs made))

  -- ---- the pairs of Ints that a part compares

  abbrev AreIn : List Atom → Type 0
  AreIn found = All (Contains (first c)) found

  pair_known : (r : Option Sort) (i j : ℕ) → r ≡ Some Ints → AreIn (map (atom_of (ts c)) (by_sort r i j)) → IsKnown (pair i j)
  pair_known r i j e h =
      let below : Atom = bound_atom (ts c) (order NotAbove i j) in
      let above : Atom = bound_atom (ts c) (order NotAbove j i) in
      let all : AreIn (Same i j ∷ below ∷ above ∷ []) = subst (λ (x : Option Sort). AreIn (map (atom_of (ts c)) (by_sort x i j))) e h in
      let two : AreIn (below ∷ above ∷ []) = All-tail (Contains (first c)) (Same i j) (below ∷ above ∷ []) all in
      (All-head (Contains (first c)) below (above ∷ []) two, All-head (Contains (first c)) above [] (All-tail (Contains (first c)) below (above ∷ []) two))

  alone_known : (r : Option Sort) (i j : ℕ) → r ≡ Some Ints → AreIn (map (atom_of (ts c)) (alone_by_sort r i j)) → IsKnown (pair i j)
  alone_known r i j e h = pair_known (Some Ints) i j refl (subst (λ (x : Option Sort). AreIn (map (atom_of (ts c)) (alone_by_sort x i j))) e h)

  abbrev sort_of_place : ℕ → Option Sort
  sort_of_place = sort_of (ds c) (ts c)

  abbrev IsInt : ℕ → Type 0
  IsInt i = sort_of_place i ≡ Some Ints

  neighbours_known : (i : ℕ) (js : List ℕ) → All IsInt (i ∷ js) → AreIn (map (atom_of (ts c)) (neighbours_from sort_of_place i js)) → All IsKnown (neighbours i js)
  neighbours_known i [] ints h = All-nil IsKnown
  neighbours_known i (j ∷ js) ints h =
      let here = by_sort (sort_of_place i) i j in
      let rest = neighbours_from sort_of_place j js in
      let all : AreIn (map (atom_of (ts c)) here ++ map (atom_of (ts c)) rest) = subst AreIn (map-append (atom_of (ts c)) here rest) h in
      All-cons IsKnown (pair i j) (neighbours j js)
      (pair_known (sort_of_place i) i j (All-head IsInt i (j ∷ js) ints) (All-left (Contains (first c)) (map (atom_of (ts c)) here) (map (atom_of (ts c)) rest) all))
      (neighbours_known j js (All-tail IsInt i (j ∷ js) ints) (All-right (Contains (first c)) (map (atom_of (ts c)) here) (map (atom_of (ts c)) rest) all))

  with_each_known : (i : ℕ) (js : List ℕ) → IsInt i → AreIn (map (atom_of (ts c)) (first_with sort_of_place i js)) → All IsKnown (with_each i js)
  with_each_known i [] int h = All-nil IsKnown
  with_each_known i (j ∷ js) int h =
      let here = by_sort (sort_of_place i) i j in
      let rest = first_with sort_of_place i js in
      let all : AreIn (map (atom_of (ts c)) here ++ map (atom_of (ts c)) rest) = subst AreIn (map-append (atom_of (ts c)) here rest) h in
      All-cons IsKnown (pair i j) (with_each i js)
      (pair_known (sort_of_place i) i j int (All-left (Contains (first c)) (map (atom_of (ts c)) here) (map (atom_of (ts c)) rest) all))
      (with_each_known i js int (All-right (Contains (first c)) (map (atom_of (ts c)) here) (map (atom_of (ts c)) rest) all))

  each_two_known : (is : List ℕ) → All IsInt is → AreIn (map (atom_of (ts c)) (compared_pairs sort_of_place is)) → All IsKnown (each_two is)
  each_two_known [] ints h = All-nil IsKnown
  each_two_known (i ∷ is) ints h =
      let here = first_with sort_of_place i is in
      let rest = compared_pairs sort_of_place is in
      let all : AreIn (map (atom_of (ts c)) here ++ map (atom_of (ts c)) rest) = subst AreIn (map-append (atom_of (ts c)) here rest) h in
      All-append IsKnown (with_each i is) (each_two is)
      (with_each_known i is (All-head IsInt i is ints) (All-left (Contains (first c)) (map (atom_of (ts c)) here) (map (atom_of (ts c)) rest) all))
      (each_two_known is (All-tail IsInt i is ints) (All-right (Contains (first c)) (map (atom_of (ts c)) here) (map (atom_of (ts c)) rest) all))

  equal_known : (is : List ℕ) → All IsInt is → AreIn (map (atom_of (ts c)) (of_equal sort_of_place is)) → All IsKnown (pairs_of Equal is)
  equal_known [] ints h = All-nil IsKnown
  equal_known (i ∷ []) ints h = All-nil IsKnown
  equal_known (i ∷ j ∷ []) ints h = All-cons IsKnown (pair i j) [] (alone_known (sort_of_place i) i j (All-head IsInt i (j ∷ []) ints) h) (All-nil IsKnown)
  equal_known (i ∷ j ∷ k ∷ ks) ints h = neighbours_known i (j ∷ k ∷ ks) ints h

  distinct_known : (is : List ℕ) → All IsInt is → AreIn (map (atom_of (ts c)) (of_distinct sort_of_place is)) → All IsKnown (pairs_of Distinct is)
  distinct_known [] ints h = All-nil IsKnown
  distinct_known (i ∷ []) ints h = All-nil IsKnown
  distinct_known (i ∷ j ∷ []) ints h = All-cons IsKnown (pair i j) [] (alone_known (sort_of_place i) i j (All-head IsInt i (j ∷ []) ints) h) (All-nil IsKnown)
  distinct_known (i ∷ j ∷ k ∷ ks) ints h = each_two_known (i ∷ j ∷ k ∷ ks) ints h

  -- ---- equalities

  module _ (is : List ℕ) (marked : All (IsMarked c.marks) is) (listed : All (HasListed c Ints) is) where
    are_ints : All IsInt is
    are_ints = λ k d l. sort_there c _ (marked k d l) ∙ ap Some (listed k d l)

    are_numbers : All (λ i. IsNumber (v c i)) is
    are_numbers = λ k d l. number_exact c _ (marked k d l) (listed k d l)

    abbrev IsComparedTruth : Operator → Type 0
    IsComparedTruth o = operate o (map (v c) is) ≡ Truth (truth_of (operate o (map (v c) is)))

    compared_has : EqualityPartIsDecided → (p : ℕ) (o : Operator) → IsTrue (compares o) → IsMarked c.marks p → sort_at c.fitting.check.sorts p ≡ Truths → IsComparedTruth o → All IsKnown (pairs_of o is)
        → All (IsMadeTrue c.fitting.log) (equality_part (ts c) (first c) true o p is) → HasValueOf (ts c) c.values p o is
    compared_has decided p o h m own truth known made =
        let numbers : AreNumbers (v c) (pairs_of o is) = pairs_both (λ i. IsNumber (v c i)) o is are_numbers in
        let ties : All (IsMadeTrue c.fitting.log) (flat_map (int_tie (ts c) (first c)) (pairs_of o is)) =
        All-left (IsMadeTrue c.fitting.log) (flat_map (int_tie (ts c) (first c)) (pairs_of o is)) (comparison_clauses o (truth_number (first c) p) (map (same_number (first c)) (pairs_of o is))) made in
        truth_told c p (truth_of (operate o (map (v c) is))) m own
        (decided (v c) c.fitting.log (ts c) (first c) true o p is h c.fitting.check.consistent (numbers, pairs_fit (pairs_of o is) known ties) made) ∙ sym truth

    pub equal_has : EqualityPartIsDecided → (p : ℕ) → IsMarked c.marks p → IsNode (ts c) p (Theory Equal) is → sort_at c.fitting.check.sorts p ≡ Truths
        → All (IsMadeTrue c.fitting.log) (equality_part (ts c) (first c) true Equal p is) → HasValueOf (ts c) c.values p Equal is
    equal_has decided p m n own made =
        compared_has decided p Equal refl m own refl (equal_known is are_ints ((c.numbers c.stack c.marks (first c) c.fitting.check.decided.atoms p Equal is m n).equality refl)) made

    pub distinct_has : EqualityPartIsDecided → (p : ℕ) → IsMarked c.marks p → IsNode (ts c) p (Theory Distinct) is → sort_at c.fitting.check.sorts p ≡ Truths → (IsAssertedDistinct c.stack p (Theory Distinct) is → ⊥)
        → All (IsMadeTrue c.fitting.log) (equality_part (ts c) (first c) true Distinct p is) → HasValueOf (ts c) c.values p Distinct is
    distinct_has decided p m n own other made = elim ((c.numbers c.stack c.marks (first c) c.fitting.check.decided.atoms p Distinct is m n).different refl) [
      | inl asserted ↦ absurd (other asserted)
      | inr known ↦ compared_has decided p Distinct refl m own refl (distinct_known is are_ints known) made
    ]

  -- ---- choices

  pub choice_has : ChoicePartIsDecided → (p k i j : ℕ) → IsMarked c.marks p → IsNode (ts c) p (Theory Ite) (k ∷ i ∷ j ∷ []) → sort_at c.fitting.check.sorts p ≡ Ints
      → All (IsMadeTrue c.fitting.log) (choice_part (ts c) (first c) p k i j) → HasValueOf (ts c) c.values p Ite (k ∷ i ∷ j ∷ [])
  choice_has decided p k i j m n own made =
      let so : ChoosesSorts c p k i j = choice_sorts c p k i j m n in
      let marked : All (IsMarked c.marks) (k ∷ i ∷ j ∷ []) = arguments_marked c p Ite (k ∷ i ∷ j ∷ []) m n in
      let branches : All (IsMarked c.marks) (i ∷ j ∷ []) = All-tail (IsMarked c.marks) k (i ∷ j ∷ []) marked in
      let mi : IsMarked c.marks i = All-head (IsMarked c.marks) i (j ∷ []) branches in
      let mj : IsMarked c.marks j = All-head (IsMarked c.marks) j [] (All-tail (IsMarked c.marks) i (j ∷ []) branches) in
      let int : IsInt p = sort_there c p m ∙ ap Some own in
      let number : IsNumber (v c p) = number_exact c p m own in
      let one = alone_by_sort (sort_of_place p) p i in
      let two = alone_by_sort (sort_of_place p) p j in
      let all : AreIn (map (atom_of (ts c)) one ++ map (atom_of (ts c)) two) =
      subst AreIn (map-append (atom_of (ts c)) one two) ((c.numbers c.stack c.marks (first c) c.fitting.check.decided.atoms p Ite (k ∷ i ∷ j ∷ []) m n).choice refl) in
      let known : All IsKnown (pair p i ∷ pair p j ∷ []) =
      All-cons IsKnown (pair p i) (pair p j ∷ []) (alone_known (sort_of_place p) p i int (All-left (Contains (first c)) (map (atom_of (ts c)) one) (map (atom_of (ts c)) two) all))
      (All-cons IsKnown (pair p j) [] (alone_known (sort_of_place p) p j int (All-right (Contains (first c)) (map (atom_of (ts c)) one) (map (atom_of (ts c)) two) all)) (All-nil IsKnown)) in
      let numbers : AreNumbers (v c) (pair p i ∷ pair p j ∷ []) =
      All-cons (λ (q : Pair). IsNumber (v c q.left) × IsNumber (v c q.right)) (pair p i) (pair p j ∷ []) (number, number_exact c i mi (so.first ∙ own))
      (All-cons (λ (q : Pair). IsNumber (v c q.left) × IsNumber (v c q.right)) (pair p j) [] (number, number_exact c j mj (so.second ∙ own))
      (All-nil (λ (q : Pair). IsNumber (v c q.left) × IsNumber (v c q.right)))) in
      let ties : All (IsMadeTrue c.fitting.log) (flat_map (int_tie (ts c) (first c)) (pair p i ∷ pair p j ∷ [])) =
      All-left (IsMadeTrue c.fitting.log) (flat_map (int_tie (ts c) (first c)) (pair p i ∷ pair p j ∷ []))
      (choice_clauses (truth_number (first c) k) (same_number (first c) (pair p i)) (same_number (first c) (pair p j))) made in
      decided (v c) c.fitting.log (ts c) (first c) p k i j c.fitting.check.consistent (truth_given c k (All-head (IsMarked c.marks) k (i ∷ j ∷ []) marked) so.condition)
      (numbers, pairs_fit (pair p i ∷ pair p j ∷ []) known ties) made
