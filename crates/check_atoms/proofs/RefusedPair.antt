-- A pair whose bound is refused.
use Rattle.std.proofs.Common.{◌≡◌, inl, inr, ℕ, Bool, true, false, ◌&&◌, List, [], ◌∷◌, Some, map, All, subst, sym, ap, ◌∙◌, refl}
use Rattle.std.specs.Prelude.{Option, None, ℤ}
use Rattle.std.proofs.lemmas.List.Elements.{All-nil, All-cons, All-append, All-map, All-contains}
use Rattle.fraction128.specs.Whole.{is_in_range}
use Rattle.smt_meaning.specs.declared.values.Sort.{Sort}
use Rattle.smt_meaning.specs.declared.values.Sort.TheVariants.{Bool as Truths, Int as Ints, Free}
use Rattle.smt_meaning.specs.declared.terms.Operator.TheVariants.{Equal, Distinct, Ite, AtMost, Less, AtLeast, Greater, Divide, Modulo, Absolute, Divisible}
use Rattle.smt_meaning.specs.declared.terms.Operator.{Operator}
use Rattle.smt_meaning.specs.declared.terms.Head.{Head}
use Rattle.smt_meaning.specs.declared.terms.Head.TheVariants.{Theory}
use Rattle.smt_meaning.specs.Declaration.{Declaration}
use Rattle.smt_meaning.specs.Term.{Tree, tree_at}
use Rattle.smt_meaning.specs.Nodes.{pick}
use Rattle.smt_meaning.specs.Signature.{tree_sort}
use Rattle.smt_meaning.specs.Linear.{linear_form, form_fits, folding_fits}
use Rattle.smt_meaning.specs.Atoms.{difference_of}
use Rattle.smt_meaning.specs.Comparisons.{pair_fits, strict_pair_fits, neighbours_fit_from, comparison_fits, compared_fits}
use Rattle.smt_meaning.specs.CheckAtoms.{IsIntPart}
use Rattle.smt_meaning.specs.Ranges.{LeavesInPart}
use Rattle.smt_meaning.specs.Stack.{signature_of, assertions_of}
use Rattle.smt_meaning.specs.StackCommand.{Stack}
use Rattle.smt_laws.specs.Rows.{place_divisor}
use Rattle.term_store.proofs.PlaceLemmas.{place_of-is}
use Rattle.scope_stack.specs.Shown.{IsLawful}
use Rattle.check_atoms.proofs.Sorting.{HasSort, part_has_sort}
use Rattle.check_atoms.proofs.Marking.{part_of_part}
use Rattle.linear_forms.specs.Differences.{difference_fits, LeavesRangeTogether}
use Rattle.pair_bounds.specs.Pairs.{threshold_below}
use Rattle.bound_clauses.specs.declared.orders.Sense.{Sense}
use Rattle.bound_clauses.specs.declared.orders.Sense.TheVariants.{NotAbove, Below}
use Rattle.bound_clauses.specs.declared.orders.Order.{Order}
use Rattle.bound_clauses.specs.Orders.{order, both_orders, rising, falling}
use Rattle.check_atoms.specs.declared.refusal.Refusal.TheVariants.{Pair, Memory}
use Rattle.check_atoms.specs.declared.part.PartAtom.{PartAtom}
use Rattle.check_atoms.specs.declared.part.PartAtom.TheVariants.{Truth, Same, Bound, Limit}
use Rattle.pair_bounds.specs.declared.rows.RowLimit.{RowLimit}
use Rattle.check_atoms.specs.PartAtoms.{sort_of, by_sort, alone_by_sort, truth_by_sort, alone, compared, compared_by_head, of_part}
use Rattle.check_atoms.specs.Numbering.{fits_by, RefusesBound}
use Rattle.check_atoms.specs.OfStack.{part_atoms, RefusesPart}
use Rattle.check_atoms.specs.Laws.{PairLeavesRange, RefusedPairLeavesRange}
use Rattle.check_atoms.proofs.Rows.{limits_of}
use Rattle.check_atoms.proofs.PartPlaces.{IsOver, part_over, equal_all, two_all}
use Rattle.check_atoms.proofs.Integers.{IsIntBound, part_int}
use Rattle.check_atoms.proofs.Refused.{different, itself, IsBelow, all_below}

-- ---- what doesn't fit

last_of : (a b c x : Bool) → a ≡ true → b ≡ true → c ≡ true → ((a && (b && true)) && (c && x)) ≡ x
last_of a b c x p q r = rw (p, q, r) refl

both_false : (a b : Bool) → b ≡ false → (a && b) ≡ false
both_false true b e = e
both_false false b e = refl

module _ (ts : List Tree) (s t : Tree) (left : folding_fits ts s ≡ true) (right : folding_fits ts t ≡ true) (form : form_fits (linear_form ts s) ≡ true) where
  differences : difference_fits ts s t ≡ pair_fits ts s t
  differences = last_of (folding_fits ts s) (folding_fits ts t) (form_fits (linear_form ts s)) (pair_fits ts s t) left right form

  pair_unfit : difference_fits ts s t ≡ false → pair_fits ts s t ≡ false
  pair_unfit e = sym differences ∙ e

  strict_unfit : (difference_fits ts s t && is_in_range (threshold_below (difference_of ts s t))) ≡ false → strict_pair_fits ts s t ≡ false
  strict_unfit e = ap (λ b. b && is_in_range (threshold_below (difference_of ts s t))) (sym differences) ∙ e

-- ---- strict bounds are those of comparisons

not_below : NotAbove ≡ Below → ⊥
not_below e = cc

module _ (ts : List Tree) (ds : List Declaration) where
  -- a strict bound that doesn't fit shows this
  abbrev Shows : Type 0 → PartAtom → Type 0
  Shows G (Truth p) = Unit {0}
  Shows G (Same i j) = Unit {0}
  Shows G (Limit l) = Unit {0}
  Shows G (Bound o) = o.sense ≡ Below → strict_pair_fits ts (tree_at ts o.lesser) (tree_at ts o.greater) ≡ false → G

  pair_shows : (G : Type 0) (r : Option Sort) (i j : ℕ) → All (Shows G) (by_sort r i j)
  pair_shows G None i j = All-cons (Shows G) (Same i j) [] tt (All-nil (Shows G))
  pair_shows G (Some Truths) i j = All-nil (Shows G)
  pair_shows G (Some Ints) i j =
      All-cons (Shows G) (Same i j) (map Bound (both_orders i j)) tt
      (All-cons (Shows G) (Bound (order NotAbove i j)) (Bound (order NotAbove j i) ∷ []) (λ e f. absurd (not_below e))
      (All-cons (Shows G) (Bound (order NotAbove j i)) [] (λ e f. absurd (not_below e)) (All-nil (Shows G))))
  pair_shows G (Some (Free n)) i j = All-cons (Shows G) (Same i j) [] tt (All-nil (Shows G))

  alone_shows : (G : Type 0) (r : Option Sort) (i j : ℕ) → All (Shows G) (alone_by_sort r i j)
  alone_shows G None i j = pair_shows G None i j
  alone_shows G (Some Truths) i j = All-nil (Shows G)
  alone_shows G (Some Ints) i j = pair_shows G (Some Ints) i j
  alone_shows G (Some (Free n)) i j = All-nil (Shows G)

  truth_shows : (G : Type 0) (r : Option Sort) (p : ℕ) → All (Shows G) (truth_by_sort r p)
  truth_shows G None p = All-nil (Shows G)
  truth_shows G (Some Truths) p = All-cons (Shows G) (Truth p) [] tt (All-nil (Shows G))
  truth_shows G (Some Ints) p = All-nil (Shows G)
  truth_shows G (Some (Free n)) p = All-nil (Shows G)

  rising_shows : (G : Type 0) (i : ℕ) (js : List ℕ) → (neighbours_fit_from (strict_pair_fits ts) (tree_at ts i) (pick ts js) ≡ false → G) → All (Shows G) (map Bound (rising Below i js))
  rising_shows G i [] k = All-nil (Shows G)
  rising_shows G i (j ∷ js) k =
      let later = neighbours_fit_from (strict_pair_fits ts) (tree_at ts j) (pick ts js) in
      All-cons (Shows G) (Bound (order Below i j)) (map Bound (rising Below j js)) (λ e f. k (ap (λ b. b && later) f))
      (rising_shows G j js (λ n. k (both_false (strict_pair_fits ts (tree_at ts i) (tree_at ts j)) later n)))

  falling_shows : (G : Type 0) (i : ℕ) (js : List ℕ) → (neighbours_fit_from (λ s t. strict_pair_fits ts t s) (tree_at ts i) (pick ts js) ≡ false → G) → All (Shows G) (map Bound (falling Below i js))
  falling_shows G i [] k = All-nil (Shows G)
  falling_shows G i (j ∷ js) k =
      let later = neighbours_fit_from (λ s t. strict_pair_fits ts t s) (tree_at ts j) (pick ts js) in
      All-cons (Shows G) (Bound (order Below j i)) (map Bound (falling Below j js)) (λ e f. k (ap (λ b. b && later) f))
      (falling_shows G j js (λ n. k (both_false (strict_pair_fits ts (tree_at ts j) (tree_at ts i)) later n)))

  not_above_rising : (G : Type 0) (i : ℕ) (js : List ℕ) → All (Shows G) (map Bound (rising NotAbove i js))
  not_above_rising G i [] = All-nil (Shows G)
  not_above_rising G i (j ∷ js) = All-cons (Shows G) (Bound (order NotAbove i j)) (map Bound (rising NotAbove j js)) (λ e f. absurd (not_below e)) (not_above_rising G j js)

  not_above_falling : (G : Type 0) (i : ℕ) (js : List ℕ) → All (Shows G) (map Bound (falling NotAbove i js))
  not_above_falling G i [] = All-nil (Shows G)
  not_above_falling G i (j ∷ js) = All-cons (Shows G) (Bound (order NotAbove j i)) (map Bound (falling NotAbove j js)) (λ e f. absurd (not_below e)) (not_above_falling G j js)

  abbrev Unfit : Operator → List ℕ → Type 0
  Unfit o is = comparison_fits ts ds (Theory o) (pick ts is) ≡ false

  limits_show : (G : Type 0) (ls : List RowLimit) → All (Shows G) (map Limit ls)
  limits_show G ls = All-map (Shows G) Limit ls (λ k d l. tt)

  compared_shows : (n : ℤ) (o : Operator) (p : ℕ) (is : List ℕ) → All (Shows (Unfit o is)) (compared (sort_of ds ts) n o p is)
  compared_shows n Equal p is = equal_all (λ i. Unit {0}) (Shows (Unfit Equal is)) (sort_of ds ts) (λ i j h g. pair_shows (Unfit Equal is) (sort_of ds ts i) i j) (λ i j h g. alone_shows (Unfit Equal is) (sort_of ds ts i) i j) is (λ k d l. tt)
  compared_shows n Distinct p is = two_all (λ i. Unit {0}) (Shows (Unfit Distinct is)) (sort_of ds ts) (λ i j h g. pair_shows (Unfit Distinct is) (sort_of ds ts i) i j) (λ i j h g. alone_shows (Unfit Distinct is) (sort_of ds ts i) i j) is (λ k d l. tt)
  compared_shows n Ite p (c ∷ i ∷ j ∷ []) =
      All-append (Shows (Unfit Ite (c ∷ i ∷ j ∷ []))) (alone (sort_of ds ts) p i) (alone (sort_of ds ts) p j) (alone_shows (Unfit Ite (c ∷ i ∷ j ∷ [])) (sort_of ds ts p) p i)
      (alone_shows (Unfit Ite (c ∷ i ∷ j ∷ [])) (sort_of ds ts p) p j)
  compared_shows n Ite p is = All-nil (Shows (Unfit Ite is))
  compared_shows n AtMost p (i ∷ is) = not_above_rising (Unfit AtMost (i ∷ is)) i is
  compared_shows n Less p (i ∷ is) = rising_shows (Unfit Less (i ∷ is)) i is (λ n. n)
  compared_shows n AtLeast p (i ∷ is) = not_above_falling (Unfit AtLeast (i ∷ is)) i is
  compared_shows n Greater p (i ∷ is) = falling_shows (Unfit Greater (i ∷ is)) i is (λ n. n)
  compared_shows n Divide p is = limits_show (Unfit Divide is) (limits_of n Divide p is)
  compared_shows n Modulo p is = limits_show (Unfit Modulo is) (limits_of n Modulo p is)
  compared_shows n Absolute p is = limits_show (Unfit Absolute is) (limits_of n Absolute p is)
  compared_shows n Divisible p is = limits_show (Unfit Divisible is) (limits_of n Divisible p is)
  compared_shows n o p is = All-nil (Shows (Unfit o is))

  head_shows : (n : ℤ) (h : Head) (p : ℕ) (is : List ℕ) → All (Shows (comparison_fits ts ds h (pick ts is) ≡ false)) (compared_by_head (sort_of ds ts) n h p is)
  head_shows n (Theory o) p is = compared_shows n o p is
  head_shows n h p is = All-nil (Shows (comparison_fits ts ds h (pick ts is) ≡ false))

  part_shows : (n : ℤ) (p : ℕ) (h : Head) (is : List ℕ) → All (Shows (comparison_fits ts ds h (pick ts is) ≡ false)) (of_part (sort_of ds ts) n p h is)
  part_shows n p h is =
      All-append (Shows (comparison_fits ts ds h (pick ts is) ≡ false)) (truth_by_sort (sort_of ds ts p) p) (compared_by_head (sort_of ds ts) n h p is)
      (truth_shows (comparison_fits ts ds h (pick ts is) ≡ false) (sort_of ds ts p) p) (head_shows n h p is)

-- ---- a refused pair

no_memory : (p : ℕ) (o : Order) → Pair p o ≡ Memory → ⊥
no_memory p o e = cc

module _ (s : Stack) (lawful : IsLawful s) (part : ℕ) (given : Order) (r : RefusesPart s (Pair part given)) (bound : RefusesBound s.trees r.place (part_atoms s r.place r.head r.arguments) (Pair part given)) where
  abbrev ds : List Declaration
  ds = signature_of s.frames

  abbrev o : Order
  o = bound.order

  sort : HasSort ds (tree_at s.trees r.place)
  sort =
      part_has_sort ds (tree_at s.trees r.place) r.part.assertion r.part.part
      (Truths, All-contains (λ (t : Tree). tree_sort ds t ≡ Some Truths) (assertions_of s.frames) r.part.assertion lawful.truths r.part.asserted)

  ints : IsIntBound ds s.trees (Bound o)
  ints =
      All-contains (IsIntBound ds s.trees) (part_atoms s r.place r.head r.arguments) (Bound o) (part_int ds s.trees (place_divisor s.trees r.arguments) r.place r.head r.arguments sort.0 sort.1 r.term.tree) bound.among

  over : IsOver (IsBelow s lawful r.place) (Bound o)
  over =
      All-contains (IsOver (IsBelow s lawful r.place)) (part_atoms s r.place r.head r.arguments) (Bound o)
      (part_over (IsBelow s lawful r.place) (sort_of ds s.trees) (place_divisor s.trees r.arguments) r.place r.head r.arguments (itself (tree_at s.trees r.place), r.term.within)
      (all_below s lawful r.place r.head r.arguments r.term.tree r.term.arguments))
      bound.among

  int_part : (i : ℕ) → IsBelow s lawful r.place i → tree_sort ds (tree_at s.trees i) ≡ Some Ints → IsIntPart s.trees s.frames (tree_at s.trees i) i
  int_part i b int = record {
    part = record { assertion = r.part.assertion; asserted = r.part.asserted; part = part_of_part (tree_at s.trees i) (tree_at s.trees r.place) r.part.assertion b.0 r.part.part };
    int = int;
    place_is = place_of-is (tree_at s.trees i) s.trees i (different s lawful) b.1 refl;
  }

  compared_unfit : o.sense ≡ Below → strict_pair_fits s.trees (tree_at s.trees o.lesser) (tree_at s.trees o.greater) ≡ false → LeavesInPart s.trees s.frames r.place
  compared_unfit e f = record {
    tree = tree_at s.trees r.place;
    part = r.part;
    place_is = place_of-is (tree_at s.trees r.place) s.trees r.place (different s lawful) r.term.within refl;
    leaves = inr (subst (λ t. compared_fits s.trees ds t ≡ false) (sym r.term.tree)
        (All-contains (Shows s.trees ds (comparison_fits s.trees ds r.head (pick s.trees r.arguments) ≡ false)) (part_atoms s r.place r.head r.arguments) (Bound o)
        (part_shows s.trees ds (place_divisor s.trees r.arguments) r.place r.head r.arguments) bound.among e f));
  }

  by_sense : (sense : Sense) → o.sense ≡ sense → form_fits (linear_form s.trees (tree_at s.trees o.lesser)) ≡ true
      → LeavesRangeTogether s.trees (fits_by sense s.trees) o.lesser o.greater → PairLeavesRange s r.place sense o.lesser o.greater
  by_sense NotAbove e form t = record {
    left = tree_at s.trees o.lesser;
    right = tree_at s.trees o.greater;
    left_part = int_part o.lesser over.0 ints.0;
    right_part = int_part o.greater over.1 ints.1;
    leaves = pair_unfit s.trees (tree_at s.trees o.lesser) (tree_at s.trees o.greater) t.left_fits t.right_fits form t.outside;
  }
  by_sense Below e form t =
      compared_unfit e (strict_unfit s.trees (tree_at s.trees o.lesser) (tree_at s.trees o.greater) t.left_fits t.right_fits form t.outside)

  refused : form_fits (linear_form s.trees (tree_at s.trees given.lesser)) ≡ true → PairLeavesRange s part given.sense given.lesser given.greater
  refused form =
      let same = bound.refuses.1 in
      subst (λ p. PairLeavesRange s p given.sense given.lesser given.greater) (sym bound.refuses.0)
      (subst (λ (q : Order). PairLeavesRange s r.place q.sense q.lesser q.greater) (sym same)
      (by_sense o.sense refl (subst (λ (q : Order). form_fits (linear_form s.trees (tree_at s.trees q.lesser)) ≡ true) same form) bound.refuses.2))

pub refused_pair : RefusedPairLeavesRange
refused_pair s part o lawful form (inl m) = absurd (no_memory part o m)
refused_pair s part o lawful form (inr r) = elim r.atom [
  | inl b ↦ refused s lawful part o r b form
  | inr other ↦ elim other [ inl l ↦ absurd l.refuses | inr d ↦ absurd d ]
]
