-- (assert (<= 5 x)): what its atoms and bounds are, and that no step over them leaves the range.
use Rattle.std.specs.Prelude.{◌&&◌}
use Rattle.std.proofs.Common.{◌≡◌, ℕ, ℤ, ◌⊎◌, inl, inr, pos, negsuc, sym, ap, ap₂, ◌∙◌, subst, refl, arith, List, [], ◌∷◌, Bool, true, false, Some, Contains}
use Rattle.fraction128.specs.Number.{whole}
use Rattle.fraction128.specs.Gcd.{gcd_of}
use Rattle.fraction128.specs.Listed.{sum_over, reduced_by, sum_steps}
use Rattle.fraction128.specs.declared.Summand.{Summand}
use Rattle.fraction128.specs.declared.Pending.{Pending}
use Rattle.fraction128.specs.declared.Side.{Side}
use Rattle.fraction128.specs.Grid as G
use Rattle.fraction128.specs.Grid.{leaf, turned, distance_fits, coefficient, bound_number}
use Rattle.smt_meaning.specs.declared.clauses.Summand as Terms
use Rattle.smt_meaning.specs.declared.clauses.Atom.TheVariants.{AtMost, Same, Truth}
use Rattle.smt_meaning.specs.Term.{Tree}
use Rattle.smt_meaning.specs.Stack.{signature_of}
use Rattle.fraction128.specs.Whole.{is_in_range}
use Rattle.smt_meaning.specs.Parts.{IsPart}
use Rattle.smt_meaning.specs.Signature.{tree_sort}
use Rattle.smt_meaning.specs.TreeShape.{place_of}
use Rattle.smt_meaning.specs.declared.values.Sort.TheVariants.{Int as Ints}
use Rattle.smt_meaning.specs.Atoms.{stack_atoms, pair_atoms}
use Rattle.smt_meaning.specs.Boxes.{asserted_atoms, term_at_most}
use Rattle.smt_meaning.specs.CheckAtoms.{IsPartOfStack, IsLeaf, is_leaf, ComparesParts, IsFirstAtom, IsKnownSum, IsBoundOf, grid_sum, told}
use Rattle.report_laws.specs.OneLeaf.{IsOverOneLeaf}
use Rattle.report_laws.specs.Five.{x, five, low, trees, frames, NoneLeaves, NoUnits}
use Rattle.report_laws.proofs.Listed.{in_cons, in_none}
use Rattle.report_laws.proofs.Near.{HasNear, HasParts, nothing_leaves}
use Rattle.report_laws.proofs.OneLeaf.{no_branches, no_pivots}

-- ---- parts

part_is : (t : Tree) → IsPartOfStack frames t → (t ≡ low) ⊎ ((t ≡ five) ⊎ (t ≡ x))
part_is t h = by_assertion h.assertion h.asserted h.part
  where
    open_part : (a : Tree) → a ≡ low → IsPart t a → (t ≡ low) ⊎ ((t ≡ five) ⊎ (t ≡ x))
    open_part a e part = by (subst (IsPart t) e part)
      where
        by : IsPart t low → (t ≡ low) ⊎ ((t ≡ five) ⊎ (t ≡ x))
        by (inl w) = inl w
        by (inr (inl (inl w))) = inr (inl w)
        by (inr (inl (inr w))) = absurd w
        by (inr (inr (inl (inl w)))) = inr (inr w)
        by (inr (inr (inl (inr w)))) = absurd w
        by (inr (inr (inr w))) = absurd w

    by_assertion : (a : Tree) → Contains (low ∷ []) a → IsPart t a → (t ≡ low) ⊎ ((t ≡ five) ⊎ (t ≡ x))
    by_assertion a c part = elim (in_cons low a [] c) [ inl e ↦ open_part a e part | inr w ↦ absurd (in_none a w) ]

-- ---- atoms

abbrev minus : List Terms.Summand
minus = record { coefficient = negsuc 0; term = 1 } ∷ []

abbrev plus : List Terms.Summand
plus = record { coefficient = pos 1; term = 1 } ∷ []

-- -x is at most -5, x is at most 5, or nothing is at most 0
abbrev IsHere : List Terms.Summand → ℤ → Type 0
IsHere qs k = ((qs ≡ []) × (k ≡ pos 0)) ⊎ (((qs ≡ minus) × (k ≡ negsuc 4)) ⊎ ((qs ≡ plus) × (k ≡ pos 5)))

at_most_is : (p q : List Terms.Summand) (j k : ℤ) → AtMost q k ≡ AtMost p j → (q ≡ p) × (k ≡ j)
at_most_is p q j k e = (cc, cc)

not_same : (i j : ℕ) (q : List Terms.Summand) (k : ℤ) → AtMost q k ≡ Same i j → ⊥
not_same i j q k e = cc

not_truth : (i : ℕ) (q : List Terms.Summand) (k : ℤ) → AtMost q k ≡ Truth i → ⊥
not_truth i q k e = cc

-- one of two bounds after an equality
of_two : (i j : ℕ) (a b : List Terms.Summand) (m n : ℤ) (q : List Terms.Summand) (k : ℤ) → Contains (Same i j ∷ AtMost a m ∷ AtMost b n ∷ []) (AtMost q k) → ((q ≡ a) × (k ≡ m)) ⊎ ((q ≡ b) × (k ≡ n))
of_two i j a b m n q k c = by_first (in_cons (Same i j) (AtMost q k) (AtMost a m ∷ AtMost b n ∷ []) c)
  where
    by_third : (AtMost q k ≡ AtMost b n) ⊎ Contains [] (AtMost q k) → ((q ≡ a) × (k ≡ m)) ⊎ ((q ≡ b) × (k ≡ n))
    by_third (inl e) = inr (at_most_is b q n k e)
    by_third (inr w) = absurd (in_none (AtMost q k) w)

    by_second : (AtMost q k ≡ AtMost a m) ⊎ Contains (AtMost b n ∷ []) (AtMost q k) → ((q ≡ a) × (k ≡ m)) ⊎ ((q ≡ b) × (k ≡ n))
    by_second (inl e) = inl (at_most_is a q m k e)
    by_second (inr w) = by_third (in_cons (AtMost b n) (AtMost q k) [] w)

    by_first : (AtMost q k ≡ Same i j) ⊎ Contains (AtMost a m ∷ AtMost b n ∷ []) (AtMost q k) → ((q ≡ a) × (k ≡ m)) ⊎ ((q ≡ b) × (k ≡ n))
    by_first (inl e) = absurd (not_same i j q k e)
    by_first (inr w) = by_second (in_cons (AtMost a m) (AtMost q k) (AtMost b n ∷ []) w)

of_stack : (q : List Terms.Summand) (k : ℤ) → Contains (stack_atoms trees frames) (AtMost q k) → IsHere q k
unfolding stack_atoms gcd_of
of_stack q k c = by_first (in_cons (Truth 2) (AtMost q k) (AtMost minus (negsuc 4) ∷ []) c)
  where
    by_second : (AtMost q k ≡ AtMost minus (negsuc 4)) ⊎ Contains [] (AtMost q k) → IsHere q k
    by_second (inl e) = inr (inl (at_most_is minus q (negsuc 4) k e))
    by_second (inr w) = absurd (in_none (AtMost q k) w)

    by_first : (AtMost q k ≡ Truth 2) ⊎ Contains (AtMost minus (negsuc 4) ∷ []) (AtMost q k) → IsHere q k
    by_first (inl e) = absurd (not_truth 2 q k e)
    by_first (inr w) = by_second (in_cons (AtMost minus (negsuc 4)) (AtMost q k) [] w)

only_same : (i j : ℕ) (q : List Terms.Summand) (k : ℤ) → Contains (Same i j ∷ []) (AtMost q k) → IsHere q k
only_same i j q k c = elim (in_cons (Same i j) (AtMost q k) [] c) [ inl e ↦ absurd (not_same i j q k e) | inr w ↦ absurd (in_none (AtMost q k) w) ]

both_empty : (q : List Terms.Summand) (k : ℤ) → ((q ≡ []) × (k ≡ pos 0)) ⊎ ((q ≡ []) × (k ≡ pos 0)) → IsHere q k
both_empty q k (inl h) = inl h
both_empty q k (inr h) = inl h

five_five : (q : List Terms.Summand) (k : ℤ) → Contains (pair_atoms trees (signature_of frames) five five) (AtMost q k) → IsHere q k
unfolding gcd_of
five_five q k c = both_empty q k (of_two 0 0 [] [] (pos 0) (pos 0) q k c)

x_x : (q : List Terms.Summand) (k : ℤ) → Contains (pair_atoms trees (signature_of frames) x x) (AtMost q k) → IsHere q k
unfolding gcd_of
x_x q k c = both_empty q k (of_two 1 1 [] [] (pos 0) (pos 0) q k c)

five_x : (q : List Terms.Summand) (k : ℤ) → Contains (pair_atoms trees (signature_of frames) five x) (AtMost q k) → IsHere q k
unfolding gcd_of
five_x q k c = inr (of_two 0 1 minus plus (negsuc 4) (pos 5) q k c)

x_five : (q : List Terms.Summand) (k : ℤ) → Contains (pair_atoms trees (signature_of frames) x five) (AtMost q k) → IsHere q k
unfolding gcd_of
x_five q k c = elim (of_two 1 0 plus minus (pos 5) (negsuc 4) q k c) [ inl h ↦ inr (inr h) | inr h ↦ inr (inl h) ]

abbrev Sorts : Tree → Tree → Type 0
Sorts l r = tree_sort (signature_of frames) l ≡ tree_sort (signature_of frames) r

five_low : Sorts five low → ⊥
five_low w = cc

x_low : Sorts x low → ⊥
x_low w = cc

of_pair : (q : List Terms.Summand) (k : ℤ) → ComparesParts trees frames (AtMost q k) → IsHere q k
of_pair q k h = by h.left h.right (part_is h.left h.left_part) (part_is h.right h.right_part) h.one_sort h.among
  where
    low_any : (r : Tree) → Contains (pair_atoms trees (signature_of frames) low r) (AtMost q k) → IsHere q k
    low_any r c = only_same 2 (place_of r trees) q k c

    by : (l r : Tree) → (l ≡ low) ⊎ ((l ≡ five) ⊎ (l ≡ x)) → (r ≡ low) ⊎ ((r ≡ five) ⊎ (r ≡ x)) → Sorts l r → Contains (pair_atoms trees (signature_of frames) l r) (AtMost q k) → IsHere q k
    by l r (inl e) f s c = low_any r (subst (λ t. Contains (pair_atoms trees (signature_of frames) t r) (AtMost q k)) e c)
    by l r (inr (inl e)) (inl f) s c = absurd (five_low (subst (λ t. Sorts t low) e (subst (Sorts l) f s)))
    by l r (inr (inr e)) (inl f) s c = absurd (x_low (subst (λ t. Sorts t low) e (subst (Sorts l) f s)))
    by l r (inr (inl e)) (inr (inl f)) s c = five_five q k (subst (λ t. Contains (pair_atoms trees (signature_of frames) t five) (AtMost q k)) e (subst (λ t. Contains (pair_atoms trees (signature_of frames) l t) (AtMost q k)) f c))
    by l r (inr (inl e)) (inr (inr f)) s c = five_x q k (subst (λ t. Contains (pair_atoms trees (signature_of frames) t x) (AtMost q k)) e (subst (λ t. Contains (pair_atoms trees (signature_of frames) l t) (AtMost q k)) f c))
    by l r (inr (inr e)) (inr (inl f)) s c = x_five q k (subst (λ t. Contains (pair_atoms trees (signature_of frames) t five) (AtMost q k)) e (subst (λ t. Contains (pair_atoms trees (signature_of frames) l t) (AtMost q k)) f c))
    by l r (inr (inr e)) (inr (inr f)) s c = x_x q k (subst (λ t. Contains (pair_atoms trees (signature_of frames) t x) (AtMost q k)) e (subst (λ t. Contains (pair_atoms trees (signature_of frames) l t) (AtMost q k)) f c))

abbrev coefficient_of : List Terms.Summand → ℤ
coefficient_of [] = pos 0
coefficient_of (p ∷ ps) = p.coefficient

sides_apart : (t : ℕ) (k : ℤ) → term_at_most t k ≡ AtMost minus (negsuc 4) → ⊥
sides_apart t k e = ends (at_most_is minus (record { coefficient = pos 1; term = t } ∷ []) (negsuc 4) k e).0
  where
    ends : record { coefficient = pos 1; term = t } ∷ [] ≡ minus → ⊥
    ends w = signs (ap coefficient_of w)
      where
        signs : pos 1 ≡ negsuc 0 → ⊥
        signs v = cc

-- no term has an upper bound, so none has a box
pub no_box : (t : ℕ) (k : ℤ) → Contains (asserted_atoms trees frames) (term_at_most t k) → ⊥
unfolding gcd_of
no_box t k c = by (in_cons (AtMost minus (negsuc 4)) (term_at_most t k) [] c)
  where
    by : (term_at_most t k ≡ AtMost minus (negsuc 4)) ⊎ Contains [] (term_at_most t k) → ⊥
    by (inl e) = sides_apart t k e
    by (inr w) = in_none (term_at_most t k) w

pub first_is : (q : List Terms.Summand) (k : ℤ) → IsFirstAtom trees frames (AtMost q k) → IsHere q k
first_is q k (inl c) = of_stack q k c
first_is q k (inr (inl h)) = of_pair q k h
first_is q k (inr (inr h)) = absurd (no_box h.term h.in_box.greatest h.in_box.has_greatest)

-- ---- sums

leaf_is : (t : ℕ) → IsLeaf trees frames t → t ≡ 1
leaf_is t h = by h.leaf (part_is h.leaf h.part.part) h.part.int h.is h.part.place_is
  where
    by : (l : Tree) → (l ≡ low) ⊎ ((l ≡ five) ⊎ (l ≡ x)) → tree_sort (signature_of frames) l ≡ Some Ints
        → is_leaf l ≡ true → place_of l trees ≡ t → t ≡ 1
    by l (inl e) int is place = absurd (let z = subst (λ u. tree_sort (signature_of frames) u ≡ Some Ints) e int in cc)
    by l (inr (inl e)) int is place = absurd (let z : false ≡ true = subst (λ u. is_leaf u ≡ true) e is in cc)
    by l (inr (inr e)) int is place = sym place ∙ ap (λ u. place_of u trees) e

turned_here : (q : List Terms.Summand) (k : ℤ) → IsHere q k → (turned (grid_sum q) ≡ []) ⊎ (turned (grid_sum q) ≡ leaf 1)
turned_here q k (inl h) = inl (ap (λ r. turned (grid_sum r)) h.0)
turned_here q k (inr (inl h)) = inr (ap (λ r. turned (grid_sum r)) h.0)
turned_here q k (inr (inr h)) = inr (ap (λ r. turned (grid_sum r)) h.0)

pub over_x : IsOverOneLeaf trees frames 1
over_x ps (IsKnownSum.of_leaf t h e) = inr (e ∙ ap leaf (leaf_is t h))
over_x ps (IsKnownSum.of_atom q k h e) = elim (turned_here q k (first_is q k h)) [ inl w ↦ inl (e ∙ w) | inr w ↦ inr (e ∙ w) ]

-- ---- bounds

abbrev IsNear : ℤ → Type 0
IsNear k = (k ≡ pos 4) ⊎ ((k ≡ pos 5) ⊎ (k ≡ pos 6))

bound_near : (side : Side) (k : ℤ) → IsBoundOf (IsFirstAtom trees frames) (leaf 1) side k → IsNear k
bound_near side k h = by h.terms h.most h.positive (first_is h.terms h.most h.atom) h.sum_is h.number_is
  where
    by : (q : List Terms.Summand) (m : ℤ) (b : Bool) → IsHere q m → leaf 1 ≡ turned (grid_sum q) → k ≡ bound_number (told q m b) → IsNear k
    by q m b (inl w) s n = absurd (let z : leaf 1 ≡ [] = s ∙ ap (λ r. turned (grid_sum r)) w.0 in cc)
    by q m true (inr (inl w)) s n = inr (inl (n ∙ ap₂ (λ r j. bound_number (told r j true)) w.0 w.1))
    by q m false (inr (inl w)) s n = inl (n ∙ ap₂ (λ r j. bound_number (told r j false)) w.0 w.1)
    by q m true (inr (inr w)) s n = inr (inl (n ∙ ap₂ (λ r j. bound_number (told r j true)) w.0 w.1))
    by q m false (inr (inr w)) s n = inr (inr (n ∙ ap₂ (λ r j. bound_number (told r j false)) w.0 w.1))

-- ---- reports

-- from 0 or a bound to a bound
fits_near : (k j : ℤ) → IsNear k → (j ≡ pos 0) ⊎ IsNear j → distance_fits k (whole j) ≡ true
unfolding gcd_of sum_over reduced_by sum_steps
fits_near k j (inl e) (inl f) = ap₂ (λ a b. distance_fits a (whole b)) e f
fits_near k j (inl e) (inr (inl f)) = ap₂ (λ a b. distance_fits a (whole b)) e f
fits_near k j (inl e) (inr (inr (inl f))) = ap₂ (λ a b. distance_fits a (whole b)) e f
fits_near k j (inl e) (inr (inr (inr f))) = ap₂ (λ a b. distance_fits a (whole b)) e f
fits_near k j (inr (inl e)) (inl f) = ap₂ (λ a b. distance_fits a (whole b)) e f
fits_near k j (inr (inl e)) (inr (inl f)) = ap₂ (λ a b. distance_fits a (whole b)) e f
fits_near k j (inr (inl e)) (inr (inr (inl f))) = ap₂ (λ a b. distance_fits a (whole b)) e f
fits_near k j (inr (inl e)) (inr (inr (inr f))) = ap₂ (λ a b. distance_fits a (whole b)) e f
fits_near k j (inr (inr e)) (inl f) = ap₂ (λ a b. distance_fits a (whole b)) e f
fits_near k j (inr (inr e)) (inr (inl f)) = ap₂ (λ a b. distance_fits a (whole b)) e f
fits_near k j (inr (inr e)) (inr (inr (inl f))) = ap₂ (λ a b. distance_fits a (whole b)) e f
fits_near k j (inr (inr e)) (inr (inr (inr f))) = ap₂ (λ a b. distance_fits a (whole b)) e f

-- the number of a bound that waits
number_near : (q : List Terms.Summand) (p : Pending) → IsHere q p.number → G.number_fits p ≡ true
number_near q p h = by p.sum p.number p.holds h
  where
    by : (ps : List Summand) (n : ℤ) (b : Bool) → IsHere q n → G.number_fits (record { sum = ps; number = n; holds = b }) ≡ true
    by ps n true h = refl
    by ps n false (inl w) = ap (λ m. G.number_fits (record { sum = ps; number = m; holds = false })) w.1
    by ps n false (inr (inl w)) = ap (λ m. G.number_fits (record { sum = ps; number = m; holds = false })) w.1
    by ps n false (inr (inr w)) = ap (λ m. G.number_fits (record { sum = ps; number = m; holds = false })) w.1

values_near : (j : ℤ) → (j ≡ pos 0) ⊎ IsNear j → is_in_range j ≡ true
values_near j (inl e) = ap is_in_range e
values_near j (inr (inl e)) = ap is_in_range e
values_near j (inr (inr (inl e))) = ap is_in_range e
values_near j (inr (inr (inr e))) = ap is_in_range e

has_near : HasNear trees frames IsNear
has_near = record {
  over = over_x;
  bounds = bound_near;
  distances = fits_near;
  waiting = λ q p h. number_near q p (first_is q p.number h);
  values = values_near;
}

abbrev parts : List Tree
parts = low ∷ five ∷ x ∷ []

among_parts : (t : Tree) → (t ≡ low) ⊎ ((t ≡ five) ⊎ (t ≡ x)) → Contains parts t
among_parts t (inl e) = (0, omega arith, sym e)
among_parts t (inr (inl e)) = (1, omega arith, sym e)
among_parts t (inr (inr e)) = (2, omega arith, sym e)

has_parts : HasParts trees frames parts
has_parts = record {
  each = λ t h. among_parts t (part_is t h);
  folding = (refl, (refl, (refl, tt)));
  comparing = (refl, (refl, (refl, tt)));
  pairs = ((refl, (refl, (refl, tt))), ((refl, (refl, (refl, tt))), ((refl, (refl, (refl, tt))), tt)));
  bare = (tt, (tt, (tt, tt)));
  evaluating = λ I h. (ap (λ b. (true && ((b && true) && true)) && true) h, (refl, (ap (λ b. b && true) h, tt)));
  leaf = record { assertion = low; asserted = (0, omega arith, refl); part = inr (inr (inl (inl refl))) };
  int = refl;
  place = refl;
}

pub none_leaves : NoneLeaves
none_leaves = nothing_leaves trees frames IsNear has_near parts has_parts

pub no_units : NoUnits
no_units limit branches us spent = (
  no_branches trees frames 1 over_x spent.sums branches spent.known spent.are_branches,
  no_pivots trees frames 1 over_x limit branches us spent,
)
