-- The atoms of a part are over its place and those of its arguments.
use Rattle.std.proofs.Common.{◌≡◌, ℕ, ◌<◌, Bool, true, false, List, [], ◌∷◌, ◌++◌, Some, map, get_or, All, ap, ap₂, refl}
use Rattle.std.specs.Prelude.{Option, None, ℤ}
use Rattle.std.proofs.lemmas.List.Elements.{All-nil, All-cons, All-head, All-tail, All-append, All-map}
use Rattle.smt_meaning.specs.declared.values.Sort.{Sort}
use Rattle.smt_meaning.specs.declared.values.Sort.TheVariants.{Bool as Truths, Int as Ints, Free}
use Rattle.smt_meaning.specs.declared.terms.Operator.TheVariants.{Equal, Distinct, Ite, AtMost, Less, AtLeast, Greater, Divide, Modulo, Absolute, Divisible}
use Rattle.smt_meaning.specs.declared.terms.Operator.{Operator}
use Rattle.smt_meaning.specs.declared.terms.Head.{Head}
use Rattle.smt_meaning.specs.declared.terms.Head.TheVariants.{Theory}
use Rattle.fraction128.specs.Whole.{InRange}
use Rattle.pair_bounds.specs.declared.rows.RowLimit.{RowLimit}
use Rattle.bound_clauses.specs.declared.orders.Order.{Order}
use Rattle.bound_clauses.specs.declared.orders.Sense.{Sense}
use Rattle.bound_clauses.specs.declared.orders.Sense.TheVariants.{NotAbove, Below}
use Rattle.bound_clauses.specs.Orders.{order, both_orders, rising, falling, order_atoms}
use Rattle.check_atoms.specs.declared.part.PartAtom.{PartAtom}
use Rattle.check_atoms.specs.declared.part.PartAtom.TheVariants.{Truth, Same, Bound, Limit}
use Rattle.check_atoms.specs.PartAtoms.{by_sort, alone_by_sort, truth_by_sort, pair, alone, neighbours_from, first_with, each_two, of_equal, of_distinct, with_branches, of_rows, compared, compared_by_head, of_part, wanted_of}
use Rattle.check_atoms.specs.Numbering.{IsWithin}
use Rattle.check_atoms.proofs.Rows.{HasTerms, HasNumbers, limits_of, all_terms, all_numbers}

-- ---- which places

module _ (P : ℕ → Type 0) where
  abbrev pub IsOver : PartAtom → Type 0
  IsOver (Truth p) = P p
  IsOver (Same i j) = P i × P j
  IsOver (Bound o) = P o.lesser × P o.greater
  IsOver (Limit l) = HasTerms P l

  pair_over : (s : Option Sort) (i j : ℕ) → P i → P j → All IsOver (by_sort s i j)
  pair_over None i j h g = All-cons IsOver (Same i j) [] (h, g) (All-nil IsOver)
  pair_over (Some Truths) i j h g = All-nil IsOver
  pair_over (Some Ints) i j h g =
      All-cons IsOver (Same i j) (map Bound (both_orders i j)) (h, g) (All-cons IsOver (Bound (order NotAbove i j)) (Bound (order NotAbove j i) ∷ []) (h, g) (All-cons IsOver (Bound (order NotAbove j i)) [] (g, h) (All-nil IsOver)))
  pair_over (Some (Free n)) i j h g = All-cons IsOver (Same i j) [] (h, g) (All-nil IsOver)

  alone_over : (s : Option Sort) (i j : ℕ) → P i → P j → All IsOver (alone_by_sort s i j)
  alone_over None i j h g = pair_over None i j h g
  alone_over (Some Truths) i j h g = All-nil IsOver
  alone_over (Some Ints) i j h g = pair_over (Some Ints) i j h g
  alone_over (Some (Free n)) i j h g = All-nil IsOver

  truth_over : (s : Option Sort) (p : ℕ) → P p → All IsOver (truth_by_sort s p)
  truth_over None p h = All-nil IsOver
  truth_over (Some Truths) p h = All-cons IsOver (Truth p) [] h (All-nil IsOver)
  truth_over (Some Ints) p h = All-nil IsOver
  truth_over (Some (Free n)) p h = All-nil IsOver

  rising_over : (s : Sense) (i : ℕ) (js : List ℕ) → P i → All P js → All IsOver (map Bound (rising s i js))
  rising_over s i [] h g = All-nil IsOver
  rising_over s i (j ∷ js) h g = All-cons IsOver (Bound (order s i j)) (map Bound (rising s j js)) (h, All-head P j js g) (rising_over s j js (All-head P j js g) (All-tail P j js g))

  falling_over : (s : Sense) (i : ℕ) (js : List ℕ) → P i → All P js → All IsOver (map Bound (falling s i js))
  falling_over s i [] h g = All-nil IsOver
  falling_over s i (j ∷ js) h g = All-cons IsOver (Bound (order s j i)) (map Bound (falling s j js)) (All-head P j js g, h) (falling_over s j js (All-head P j js g) (All-tail P j js g))

  pub orders_over : (o : Operator) (is : List ℕ) → All P is → All IsOver (map Bound (order_atoms o is))
  orders_over AtMost [] g = All-nil IsOver
  orders_over AtMost (i ∷ is) g = rising_over NotAbove i is (All-head P i is g) (All-tail P i is g)
  orders_over Less [] g = All-nil IsOver
  orders_over Less (i ∷ is) g = rising_over Below i is (All-head P i is g) (All-tail P i is g)
  orders_over AtLeast [] g = All-nil IsOver
  orders_over AtLeast (i ∷ is) g = falling_over NotAbove i is (All-head P i is g) (All-tail P i is g)
  orders_over Greater [] g = All-nil IsOver
  orders_over Greater (i ∷ is) g = falling_over Below i is (All-head P i is g) (All-tail P i is g)
  orders_over o is g = All-nil IsOver

  -- what holds of the atoms of each pair holds of those of all pairs
  module _ (Q : PartAtom → Type 0) (f : ℕ → Option Sort) (pairs : (i j : ℕ) → P i → P j → All Q (pair f i j)) (single : (i j : ℕ) → P i → P j → All Q (alone f i j)) where
    neighbours_all : (i : ℕ) (js : List ℕ) → P i → All P js → All Q (neighbours_from f i js)
    neighbours_all i [] h g = All-nil Q
    neighbours_all i (j ∷ js) h g =
        All-append Q (pair f i j) (neighbours_from f j js) (pairs i j h (All-head P j js g)) (neighbours_all j js (All-head P j js g) (All-tail P j js g))

    pub equal_all : (is : List ℕ) → All P is → All Q (of_equal f is)
    equal_all [] g = All-nil Q
    equal_all (i ∷ []) g = All-nil Q
    equal_all (i ∷ j ∷ []) g = single i j (All-head P i (j ∷ []) g) (All-head P j [] (All-tail P i (j ∷ []) g))
    equal_all (i ∷ j ∷ k ∷ is) g = neighbours_all i (j ∷ k ∷ is) (All-head P i (j ∷ k ∷ is) g) (All-tail P i (j ∷ k ∷ is) g)

    first_all : (i : ℕ) (js : List ℕ) → P i → All P js → All Q (first_with f i js)
    first_all i [] h g = All-nil Q
    first_all i (j ∷ js) h g = All-append Q (pair f i j) (first_with f i js) (pairs i j h (All-head P j js g)) (first_all i js h (All-tail P j js g))

    each_two_all : (is : List ℕ) → All P is → All Q (each_two f is)
    each_two_all [] g = All-nil Q
    each_two_all (i ∷ is) g = All-append Q (first_with f i is) (each_two f is) (first_all i is (All-head P i is g) (All-tail P i is g)) (each_two_all is (All-tail P i is g))

    pub two_all : (is : List ℕ) → All P is → All Q (of_distinct f is)
    two_all [] g = All-nil Q
    two_all (i ∷ []) g = each_two_all (i ∷ []) g
    two_all (i ∷ j ∷ []) g = single i j (All-head P i (j ∷ []) g) (All-head P j [] (All-tail P i (j ∷ []) g))
    two_all (i ∷ j ∷ k ∷ is) g = each_two_all (i ∷ j ∷ k ∷ is) g

  module _ (f : ℕ → Option Sort) where
    branches_over : (p : ℕ) (is : List ℕ) → P p → All P is → All IsOver (with_branches f p is)
    branches_over p (c ∷ i ∷ j ∷ []) h g =
        let r = All-tail P c (i ∷ j ∷ []) g in
        All-append IsOver (alone f p i) (alone f p j) (alone_over (f p) p i h (All-head P i (j ∷ []) r)) (alone_over (f p) p j h (All-head P j [] (All-tail P i (j ∷ []) r)))
    branches_over p is h g = All-nil IsOver

    rows_over : (n : ℤ) (o : Operator) (p : ℕ) (is : List ℕ) → P p → All P is → All IsOver (of_rows n o p is)
    rows_over n o p is h g = All-map IsOver Limit (limits_of n o p is) (all_terms P n o p is (λ e. h) g)

    compared_over : (n : ℤ) (o : Operator) (p : ℕ) (is : List ℕ) → P p → All P is → All IsOver (compared f n o p is)
    compared_over n Equal p is h g = equal_all IsOver f (λ i j. pair_over (f i) i j) (λ i j. alone_over (f i) i j) is g
    compared_over n Distinct p is h g = two_all IsOver f (λ i j. pair_over (f i) i j) (λ i j. alone_over (f i) i j) is g
    compared_over n Ite p is h g = branches_over p is h g
    compared_over n Divide p is h g = rows_over n Divide p is h g
    compared_over n Modulo p is h g = rows_over n Modulo p is h g
    compared_over n Absolute p is h g = rows_over n Absolute p is h g
    compared_over n Divisible p is h g = rows_over n Divisible p is h g
    compared_over n o p is h g = orders_over o is g

    by_head_over : (n : ℤ) (h : Head) (p : ℕ) (is : List ℕ) → P p → All P is → All IsOver (compared_by_head f n h p is)
    by_head_over n (Theory o) p is h g = compared_over n o p is h g
    by_head_over n k p is h g = All-nil IsOver

    pub part_over : (n : ℤ) (p : ℕ) (h : Head) (is : List ℕ) → P p → All P is → All IsOver (of_part f n p h is)
    part_over n p h is k g = All-append IsOver (truth_by_sort (f p) p) (compared_by_head f n h p is) (truth_over (f p) p k) (by_head_over n h p is k g)

-- ---- what holds of each equality and order holds of all atoms where it holds of the limits, and of the truth of a Bool

module _ (Q : PartAtom → Type 0) (sames : (i j : ℕ) → Q (Same i j)) (bounds : (o : Order) → Q (Bound o)) where
  bounds_any : (os : List Order) → All Q (map Bound os)
  bounds_any os = All-map Q Bound os (λ k d l. bounds (get_or os k d))

  by_sort_any : (s : Option Sort) (i j : ℕ) → All Q (by_sort s i j)
  by_sort_any None i j = All-cons Q (Same i j) [] (sames i j) (All-nil Q)
  by_sort_any (Some Truths) i j = All-nil Q
  by_sort_any (Some Ints) i j = All-cons Q (Same i j) (map Bound (both_orders i j)) (sames i j) (bounds_any (both_orders i j))
  by_sort_any (Some (Free n)) i j = All-cons Q (Same i j) [] (sames i j) (All-nil Q)

  alone_any : (s : Option Sort) (i j : ℕ) → All Q (alone_by_sort s i j)
  alone_any None i j = by_sort_any None i j
  alone_any (Some Truths) i j = All-nil Q
  alone_any (Some Ints) i j = by_sort_any (Some Ints) i j
  alone_any (Some (Free n)) i j = All-nil Q

  truth_any : (s : Option Sort) (p : ℕ) → (s ≡ Some Truths → Q (Truth p)) → All Q (truth_by_sort s p)
  truth_any None p truth = All-nil Q
  truth_any (Some Truths) p truth = All-cons Q (Truth p) [] (truth refl) (All-nil Q)
  truth_any (Some Ints) p truth = All-nil Q
  truth_any (Some (Free n)) p truth = All-nil Q

  module _ (f : ℕ → Option Sort) (n : ℤ) (p : ℕ) where
    abbrev pub OfLimits : Operator → List ℕ → Type 0
    OfLimits o is = All (λ (l : RowLimit). Q (Limit l)) (limits_of n o p is)

    branches_any : (is : List ℕ) → All Q (with_branches f p is)
    branches_any (c ∷ i ∷ j ∷ []) = All-append Q (alone f p i) (alone f p j) (alone_any (f p) p i) (alone_any (f p) p j)
    branches_any is = All-nil Q

    compared_any : (o : Operator) (is : List ℕ) → OfLimits o is → All Q (compared f n o p is)
    compared_any Equal is r = equal_all (λ i. Unit {0}) Q f (λ i j h g. by_sort_any (f i) i j) (λ i j h g. alone_any (f i) i j) is (λ k d l. tt)
    compared_any Distinct is r = two_all (λ i. Unit {0}) Q f (λ i j h g. by_sort_any (f i) i j) (λ i j h g. alone_any (f i) i j) is (λ k d l. tt)
    compared_any Ite is r = branches_any is
    compared_any Divide is r = All-map Q Limit (limits_of n Divide p is) r
    compared_any Modulo is r = All-map Q Limit (limits_of n Modulo p is) r
    compared_any Absolute is r = All-map Q Limit (limits_of n Absolute p is) r
    compared_any Divisible is r = All-map Q Limit (limits_of n Divisible p is) r
    compared_any o is r = bounds_any (order_atoms o is)

    by_head_any : (h : Head) (is : List ℕ) → ((o : Operator) → h ≡ Theory o → OfLimits o is) → All Q (compared_by_head f n h p is)
    by_head_any (Theory o) is r = compared_any o is (r o refl)
    by_head_any h is r = All-nil Q

    pub part_any : (f p ≡ Some Truths → Q (Truth p)) → (h : Head) (is : List ℕ) → ((o : Operator) → h ≡ Theory o → OfLimits o is) → All Q (of_part f n p h is)
    part_any truth h is r = All-append Q (truth_by_sort (f p) p) (compared_by_head f n h p is) (truth_any (f p) p truth) (by_head_any h is r)

-- ---- they are among the first terms, with numbers in the range

abbrev IsRanged : PartAtom → Type 0
IsRanged (Truth p) = Unit {0}
IsRanged (Same i j) = Unit {0}
IsRanged (Bound o) = Unit {0}
IsRanged (Limit l) = HasNumbers l

over_within : (n : ℕ) (x : PartAtom) → IsOver (λ i. i < n) x → IsRanged x → IsWithin n x
over_within n (Truth p) h r = tt
over_within n (Same i j) h r = tt
over_within n (Bound o) h r = h
over_within n (Limit l) h r = record { multiples_are = λ k d m. record { in_range = r.factors k d m; within = h k d m }; in_range = r.most }

part_within : (f : ℕ → Option Sort) (d : ℤ) (n p : ℕ) (h : Head) (is : List ℕ) → InRange d → p < n → All (λ i. i < n) is → All (IsWithin n) (of_part f d p h is)
part_within f d n p h is r l g =
    let over = part_over (λ i. i < n) f d p h is l g in
    let ranged = part_any IsRanged (λ i j. tt) (λ o. tt) f d p (λ e. tt) h is (λ o e. all_numbers d o p is r) in
    λ k x m. over_within n (get_or (of_part f d p h is) k x) (over k x m) (ranged k x m)

truth_within : (r : Option Sort) (n p : ℕ) → All (IsWithin n) (truth_by_sort r p)
truth_within None n p = All-nil (IsWithin n)
truth_within (Some Truths) n p = All-cons (IsWithin n) (Truth p) [] tt (All-nil (IsWithin n))
truth_within (Some Ints) n p = All-nil (IsWithin n)
truth_within (Some (Free m)) n p = All-nil (IsWithin n)

pub wanted_within : (f : ℕ → Option Sort) (b : Bool) (d : ℤ) (n p : ℕ) (h : Head) (is : List ℕ) → InRange d → p < n → All (λ i. i < n) is → All (IsWithin n) (wanted_of f b d p h is)
wanted_within f true d n p h is r l g = truth_within (f p) n p
wanted_within f false d n p h is r l g = part_within f d n p h is r l g

-- ---- only the sorts of these places count

module _ (f g : ℕ → Option Sort) where
  abbrev Agree : ℕ → Type 0
  Agree i = f i ≡ g i

  same_neighbours : (i : ℕ) (js : List ℕ) → Agree i → All Agree js → neighbours_from f i js ≡ neighbours_from g i js
  same_neighbours i [] e es = refl
  same_neighbours i (j ∷ js) e es = ap₂ (λ xs ys. xs ++ ys) (ap (λ s. by_sort s i j) e) (same_neighbours j js (All-head Agree j js es) (All-tail Agree j js es))

  same_first : (i : ℕ) (js : List ℕ) → Agree i → first_with f i js ≡ first_with g i js
  same_first i [] e = refl
  same_first i (j ∷ js) e = ap₂ (λ xs ys. xs ++ ys) (ap (λ s. by_sort s i j) e) (same_first i js e)

  same_two : (is : List ℕ) → All Agree is → each_two f is ≡ each_two g is
  same_two [] es = refl
  same_two (i ∷ is) es = ap₂ (λ xs ys. xs ++ ys) (same_first i is (All-head Agree i is es)) (same_two is (All-tail Agree i is es))

  same_branches : (p : ℕ) (is : List ℕ) → Agree p → with_branches f p is ≡ with_branches g p is
  same_branches p (c ∷ i ∷ j ∷ []) e = ap (λ s. alone_by_sort s p i ++ alone_by_sort s p j) e
  same_branches p is e = refl

  same_compared : (n : ℤ) (o : Operator) (p : ℕ) (is : List ℕ) → Agree p → All Agree is → compared f n o p is ≡ compared g n o p is
  same_compared n Equal p [] e es = refl
  same_compared n Equal p (i ∷ []) e es = refl
  same_compared n Equal p (i ∷ j ∷ []) e es = ap (λ s. alone_by_sort s i j) (All-head Agree i (j ∷ []) es)
  same_compared n Equal p (i ∷ j ∷ k ∷ is) e es = same_neighbours i (j ∷ k ∷ is) (All-head Agree i (j ∷ k ∷ is) es) (All-tail Agree i (j ∷ k ∷ is) es)
  same_compared n Distinct p [] e es = refl
  same_compared n Distinct p (i ∷ []) e es = same_two (i ∷ []) es
  same_compared n Distinct p (i ∷ j ∷ []) e es = ap (λ s. alone_by_sort s i j) (All-head Agree i (j ∷ []) es)
  same_compared n Distinct p (i ∷ j ∷ k ∷ is) e es = same_two (i ∷ j ∷ k ∷ is) es
  same_compared n Ite p is e es = same_branches p is e
  same_compared n o p is e es = refl

  same_by_head : (n : ℤ) (h : Head) (p : ℕ) (is : List ℕ) → Agree p → All Agree is → compared_by_head f n h p is ≡ compared_by_head g n h p is
  same_by_head n (Theory o) p is e es = same_compared n o p is e es
  same_by_head n h p is e es = refl

  pub same_part : (n : ℤ) (p : ℕ) (h : Head) (is : List ℕ) → Agree p → All Agree is → of_part f n p h is ≡ of_part g n p h is
  same_part n p h is e es = ap₂ (λ xs ys. xs ++ ys) (ap (λ s. truth_by_sort s p) e) (same_by_head n h p is e es)
