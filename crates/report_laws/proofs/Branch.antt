-- A row of x at a half and at minus a half.
use Rattle.std.proofs.Common.{◌≡◌, ◌≢◌, inl, inr, ℕ, zero, suc, ◌<◌, ◌*◌, ℤ, pos, negsuc, ◌*ℤ◌, ◌≤ℤ◌, neg_ℤ, sym, ap, ap₂, ◌∙◌, subst, refl, arith, List, [], ◌∷◌, map, true, false, Option, Some, None, Contains, All}
use Rattle.std.proofs.lemmas.Int.{ints}
use Rattle.std.proofs.lemmas.List.Elements.{All-nil, All-cons}
use Rattle.fraction128.proofs.RingEquations as Ring
use Rattle.fraction128.proofs.RingEquations.{var, product, minus, nothing, unit, solve}
use Rattle.fraction128.proofs.RationalRing.{Rational, number, number_back, number_eq, number_neg, number_plus, number_times, rational_sum, rational_product, rational_zero, rational_negation, rational_one, rational_one-is, rationals}
use Rattle.fraction128.proofs.LowestTerms.{pos_times}
use Rattle.fraction128.proofs.RowValue.{dot}
use Rattle.fraction128.proofs.SumValues.{sum_positive_value, number_sum_value, number_leaf}
use Rattle.fraction128.specs.declared.ratio.Ratio.{Ratio}
use Rattle.fraction128.specs.declared.Grid.{Grid}
use Rattle.fraction128.specs.declared.Member.{Member}
use Rattle.fraction128.specs.declared.Side.TheVariants.{Lower, Upper}
use Rattle.fraction128.specs.Number.{whole, SameNumber, unreduced_sum, unreduced_product}
use Rattle.fraction128.specs.Ratio.{IsFraction}
use Rattle.fraction128.specs.Gcd.{gcd_of}
use Rattle.fraction128.specs.Grid.{leaf, column_at, is_basic, value_at, MeetsRow, WithinBounds}
use Rattle.fraction128.specs.Lines.{Bounding, AreSums, HasSum, IsBoundedBy, IsResting, IsEntry, IsRow, IsSoundGrid, IsRowIn, IsBranchLine, sum_value, IsPositive, basic_member}
use Rattle.smt_meaning.specs.declared.clauses.Summand as Terms
use Rattle.smt_meaning.specs.declared.clauses.Atom.{Atom}
use Rattle.smt_meaning.specs.declared.clauses.Atom.TheVariants.{AtMost}
use Rattle.smt_meaning.specs.Term.{Tree}
use Rattle.smt_meaning.specs.Parts.{IsPart}
use Rattle.smt_meaning.specs.Division.{rows_of}
use Rattle.smt_meaning.specs.Atoms.{positive, row_literals, division_clauses}
use Rattle.smt_meaning.specs.TreeShape.{place_of}
use Rattle.smt_meaning.specs.Boxes.{asserted_atoms, negation_at_most}
use Rattle.smt_meaning.specs.CheckAtoms.{IsPartOfStack, IsLeaf, IsFirstAtom, IsKnownSum, IsBoundOf, IsStanding, Meets, IsReached, IsBranch}
use Rattle.report_laws.specs.Sum.{x, y}
use Rattle.report_laws.specs.Branch.{nought, one, sum, low, least, trees, frames, both, sums, halved, row, grid_at, at_half, at_minus_half, HalfIsABranch, MinusHalfIsNone}
use Rattle.report_laws.proofs.TwoLeaves.{below_three, leaf_at, stack_table, zero_fraction, one_fraction, minus_fraction, minus_one_is, one_not_none, minus_not_none, leaf_value, some_is, none_is, basic_is, sound_grid}
use Rattle.report_laws.proofs.Listed.{in_cons, in_none}
use Rattle.report_laws.proofs.Boxed.{negation_is, leaf_is}

abbrev Is : Atom → Type 0
Is a = IsFirstAtom trees frames a

-- ---- the table

x_part : IsPartOfStack frames x
x_part = record { assertion = least; asserted = (1, omega arith, refl); part = inr (inr (inl (inl refl))) }

y_part : IsPartOfStack frames y
y_part = record { assertion = low; asserted = (0, omega arith, refl); part = inr (inr (inl (inr (inr (inr (inl (inl refl))))))) }

one_part : IsPartOfStack frames one
one_part = record { assertion = low; asserted = (0, omega arith, refl); part = inr (inl (inl refl)) }

nought_part : IsPartOfStack frames nought
nought_part = record { assertion = least; asserted = (1, omega arith, refl); part = inr (inl (inl refl)) }

sum_part : IsPartOfStack frames sum
sum_part = record { assertion = low; asserted = (0, omega arith, refl); part = inr (inr (inl (inl refl))) }

x_leaf : IsLeaf trees frames 0
x_leaf = leaf_at trees frames x 0 x_part refl refl refl

abbrev minus_both : List Terms.Summand
minus_both = record { coefficient = negsuc 1; term = 0 } ∷ record { coefficient = negsuc 0; term = 1 } ∷ []

-- 1 is at most 2x + y, and so is 0
one_atom : IsFirstAtom trees frames (AtMost minus_both (negsuc 0))
unfolding gcd_of
one_atom = inr (inl (record { left = one; right = sum; left_part = one_part; right_part = sum_part; one_sort = refl; among = (1, omega arith, refl) }))

nought_atom : IsFirstAtom trees frames (AtMost minus_both (pos 0))
unfolding gcd_of
nought_atom = inr (inl (record { left = nought; right = sum; left_part = nought_part; right_part = sum_part; one_sort = refl; among = (1, omega arith, refl) }))

table : AreSums (IsKnownSum trees frames) sums
table = stack_table trees frames both refl x_leaf (leaf_at trees frames y 1 y_part refl refl refl) minus_both (negsuc 0) one_atom refl

-- ---- halves

half_fraction : IsFraction (halved (pos 1))
unfolding gcd_of
half_fraction = record { positive = omega arith; lowest = refl; numerator_in = omega arith; denominator_in = omega arith }

minus_half_fraction : IsFraction (halved (negsuc 0))
unfolding gcd_of
minus_half_fraction = record { positive = omega arith; lowest = refl; numerator_in = omega arith; denominator_in = omega arith }

abbrev half : Rational
half = number (halved (pos 1))

minus_half_is : number (halved (negsuc 0)) ≡ rational_negation half
minus_half_is = number_neg (halved (pos 1)) (omega arith)

two_is : number (whole (pos 2)) ≡ rational_sum rational_one rational_one
two_is = number_eq (whole (pos 2)) (unreduced_sum (whole (pos 1)) (whole (pos 1))) (omega arith) (omega arith) refl ∙ number_plus (whole (pos 1)) (whole (pos 1)) (omega arith) (omega arith) ∙ ap (λ o. rational_sum o o) (sym rational_one-is)

two_halves : rational_sum half half ≡ rational_one
two_halves = sym (number_plus (halved (pos 1)) (halved (pos 1)) (omega arith) (omega arith)) ∙ number_eq (unreduced_sum (halved (pos 1)) (halved (pos 1))) (whole (pos 1)) (omega arith) (omega arith) refl ∙ sym rational_one-is

-- ---- the row

-- X = - h Y + h (2 X + Y)
back_again : (X Y : Rational) → rational_sum (rational_product (rational_negation half) Y) (rational_sum (rational_product half (rational_sum (rational_product (rational_sum rational_one rational_one) X) (rational_sum (rational_product rational_one Y) rational_zero))) rational_zero) ≡ X
back_again X Y =
    solve rationals (X ∷ Y ∷ half ∷ []) (Ring.sum (product (minus (var 2)) (var 1)) (Ring.sum (product (var 2) (Ring.sum (product (Ring.sum unit unit) (var 0)) (Ring.sum (product unit (var 1)) nothing))) nothing)) (product (Ring.sum (var 2) (var 2)) (var 0)) refl
    ∙ ap (λ h. rational_product h X) two_halves ∙ solve rationals (X ∷ []) (product unit (var 0)) (var 0) refl

both_value : (f : ℕ → Ratio) → IsPositive f → number (sum_value f both) ≡ rational_sum (rational_product (rational_sum rational_one rational_one) (number (f 0))) (rational_sum (rational_product rational_one (number (f 1))) rational_zero)
both_value f p =
    number_sum_value f both p
    ∙ ap₂ (λ t o. rational_sum (rational_product t (number (f 0))) (rational_sum (rational_product o (number (f 1))) rational_zero)) two_is (sym rational_one-is)

-- values of x and y at which y and 2x + y have these
abbrev lifted : (ℕ → Ratio) → ℕ → Ratio
lifted v zero = unreduced_product (halved (pos 1)) (unreduced_sum (v 2) (unreduced_product (whole (negsuc 0)) (v 1)))
lifted v (suc t) = v 1

module _ (v : ℕ → Ratio) (p : IsPositive v) where
  less_positive : 0 < (unreduced_product (whole (negsuc 0)) (v 1)).denominator
  less_positive = pos_times 1 (v 1).denominator (omega arith) (p 1)

  difference_positive : 0 < (unreduced_sum (v 2) (unreduced_product (whole (negsuc 0)) (v 1))).denominator
  difference_positive = pos_times (v 2).denominator (1 * (v 1).denominator) (p 2) less_positive

  lifted_positive : IsPositive (lifted v)
  lifted_positive zero = pos_times 2 (unreduced_sum (v 2) (unreduced_product (whole (negsuc 0)) (v 1))).denominator (omega arith) difference_positive
  lifted_positive (suc t) = p 1

  lifted_first : number (lifted v 0) ≡ rational_product half (rational_sum (number (v 2)) (rational_product (rational_negation rational_one) (number (v 1))))
  lifted_first =
      number_times (halved (pos 1)) (unreduced_sum (v 2) (unreduced_product (whole (negsuc 0)) (v 1))) (omega arith) difference_positive
      ∙ ap (rational_product half) (number_plus (v 2) (unreduced_product (whole (negsuc 0)) (v 1)) (p 2) less_positive
      ∙ ap (rational_sum (number (v 2))) (number_times (whole (negsuc 0)) (v 1) (omega arith) (p 1) ∙ ap (λ m. rational_product m (number (v 1))) minus_one_is))

  -- 2 h (S - Y) + Y = S
  ahead_again : (S Y : Rational) → rational_sum (rational_product (rational_sum rational_one rational_one) (rational_product half (rational_sum S (rational_product (rational_negation rational_one) Y)))) (rational_sum (rational_product rational_one Y) rational_zero) ≡ S
  ahead_again S Y =
      solve rationals (S ∷ Y ∷ half ∷ []) (Ring.sum (product (Ring.sum unit unit) (product (var 2) (Ring.sum (var 0) (product (minus unit) (var 1))))) (Ring.sum (product unit (var 1)) nothing))
      (Ring.sum (product (Ring.sum (var 2) (var 2)) (Ring.sum (var 0) (minus (var 1)))) (var 1)) refl
      ∙ ap (λ h. rational_sum (rational_product h (rational_sum S (rational_negation Y))) Y) two_halves
      ∙ solve rationals (S ∷ Y ∷ []) (Ring.sum (product unit (Ring.sum (var 0) (minus (var 1)))) (var 1)) (var 0) refl

  lifted_both : SameNumber (sum_value (lifted v) both) (v 2)
  lifted_both =
      number_back (sum_value (lifted v) both) (v 2) (sum_positive_value (lifted v) both lifted_positive) (p 2)
      (both_value (lifted v) lifted_positive
      ∙ ap (λ z. rational_sum (rational_product (rational_sum rational_one rational_one) z) (rational_sum (rational_product rational_one (number (v 1))) rational_zero)) lifted_first
      ∙ ahead_again (number (v 2)) (number (v 1)))

module _ (lower upper : Option ℤ) (k : ℤ) where
  abbrev g : Grid
  g = grid_at lower upper k

  row_is : IsRow g row
  row_is = record {
    known = omega arith;
    ascending = (omega arith, (omega arith, tt));
    entries = All-cons (IsEntry g) (record { variable = 1; coefficient = halved (negsuc 0) }) (record { variable = 2; coefficient = halved (pos 1) } ∷ [])
        (record { fraction = minus_half_fraction; nonzero = minus_not_none; known = omega arith; free = refl })
        (All-cons (IsEntry g) (record { variable = 2; coefficient = halved (pos 1) }) [] (record { fraction = half_fraction; nonzero = one_not_none; known = omega arith; free = refl }) (All-nil _));
  }

  identity : (f : ℕ → Ratio) → IsPositive f → number (sum_value f (leaf 0)) ≡ dot (λ i. number (sum_value f (column_at g i).sum)) row.entries
  identity f p =
      number_leaf f 0 p ∙ sym (back_again (number (f 0)) (number (f 1)))
      ∙ ap (λ m. rational_sum (rational_product m (number (f 1))) (rational_sum (rational_product half (rational_sum (rational_product (rational_sum rational_one rational_one) (number (f 0))) (rational_sum (rational_product rational_one (number (f 1))) rational_zero))) rational_zero)) (sym minus_half_is)
      ∙ ap₂ (λ s t. rational_sum (rational_product (number (halved (negsuc 0))) s) (rational_sum (rational_product half t) rational_zero)) (sym (number_leaf f 1 p)) (sym (both_value f p))

  module _ (B : Bounding) (fk : IsFraction (whole k)) (fh : IsFraction (halved k)) (met : MeetsRow (value_at g) row)
      (bl : (j : ℤ) → lower ≡ Some j → B both Lower j) (bu : (j : ℤ) → upper ≡ Some j → B both Upper j) (rests : IsResting B (column_at g 2)) where
    sound : IsSoundGrid sums B g
    sound = sound_grid (column_at g 0) (column_at g 1) (column_at g 2) row sums B row_is (omega arith, (omega arith, tt)) met identity lifted lifted_positive
        (λ v p. below_three (λ i. is_basic g.rows i ≡ false → SameNumber (sum_value (lifted v) (column_at g i).sum) (v i)) basic_is (λ free. leaf_value (lifted v) 1 (lifted_positive v p)) (λ free. lifted_both v p))
        (below_three (λ i. HasSum sums i (column_at g i)) (omega arith, refl) (omega arith, refl) (omega arith, refl))
        (below_three (λ i. IsFraction (value_at g i)) fh zero_fraction fk)
        (below_three (λ i. IsBoundedBy B (column_at g i)) (record { lower = λ j e. none_is j e; upper = λ j e. none_is j e }) (record { lower = λ j e. none_is j e; upper = λ j e. none_is j e }) (record { lower = bl; upper = bu }))
        (below_three (λ i. is_basic g.rows i ≡ false → IsResting B (column_at g i)) basic_is (λ free. inl refl) (λ free. rests))

all_within : (lower upper : Option ℤ) (k : ℤ) → WithinBounds (column_at (grid_at lower upper k) 2) → All WithinBounds (grid_at lower upper k).columns
all_within lower upper k h zero d lt = refl
all_within lower upper k h (suc zero) d lt = refl
all_within lower upper k h (suc (suc zero)) d lt = h
all_within lower upper k h (suc (suc (suc i))) d lt = absurd (omega (arith, lt))

-- ---- bounds

above_one : IsBoundOf Is both Lower (pos 1)
above_one = record { terms = minus_both; most = negsuc 0; positive = true; atom = one_atom; sum_is = refl; side_is = refl; number_is = refl }

-- not at least 0
below_none : IsBoundOf Is both Upper (negsuc 0)
below_none = record { terms = minus_both; most = pos 0; positive = false; atom = nought_atom; sum_is = refl; side_is = refl; number_is = refl }

above_row : IsRowIn sums (IsBoundOf Is) at_half
unfolding gcd_of
above_row = record {
  grid = grid_at (Some (pos 1)) None (pos 1);
  sound = sound (Some (pos 1)) None (pos 1) (IsBoundOf Is) one_fraction half_fraction refl (λ j e. subst (IsBoundOf Is both Lower) (some_is (pos 1) j e) above_one) (λ j e. none_is j e) (inr (Lower, pos 1, refl, above_one));
  within = all_within (Some (pos 1)) None (pos 1) refl;
  variable = 0;
  basic = refl;
  line = refl;
}

below_row : IsRowIn sums (IsBoundOf Is) at_minus_half
unfolding gcd_of
below_row = record {
  grid = grid_at None (Some (negsuc 0)) (negsuc 0);
  sound = sound None (Some (negsuc 0)) (negsuc 0) (IsBoundOf Is) minus_fraction minus_half_fraction refl (λ j e. none_is j e) (λ j e. subst (IsBoundOf Is both Upper) (some_is (negsuc 0) j e) below_none) (inr (Upper, negsuc 0, refl, below_none));
  within = all_within None (Some (negsuc 0)) (negsuc 0) refl;
  variable = 0;
  basic = refl;
  line = refl;
}

two_not_one : ◌≢◌ {A = ℕ} 2 1
two_not_one e = omega (arith, e)

half_line : IsBranchLine 0 (pos 0) at_half
half_line = record { basic = basic_member (grid_at (Some (pos 1)) None (pos 1)) 0; is_basic = refl; is_term = refl; broken = two_not_one; floor = (omega (arith, ints), omega (arith, ints)) }

minus_half_line : IsBranchLine 0 (negsuc 0) at_minus_half
minus_half_line = record { basic = basic_member (grid_at None (Some (negsuc 0)) (negsuc 0)) 0; is_basic = refl; is_term = refl; broken = two_not_one; floor = (omega (arith, ints), omega (arith, ints)) }

-- ---- what stands

-- no part has rows
abbrev IsPlain : Tree → Type 0
IsPlain t = rows_of trees t ≡ []

plain_part : (t : Tree) → IsPartOfStack frames t → IsPlain t
plain_part t h = by_assertion h.assertion h.asserted h.part
  where
    of_low : IsPart t low → IsPlain t
    of_low (inl e) = ap (rows_of trees) e
    of_low (inr (inl (inl e))) = ap (rows_of trees) e
    of_low (inr (inl (inr w))) = absurd w
    of_low (inr (inr (inl (inl e)))) = ap (rows_of trees) e
    of_low (inr (inr (inl (inr (inl (inl e)))))) = ap (rows_of trees) e
    of_low (inr (inr (inl (inr (inl (inr w)))))) = absurd w
    of_low (inr (inr (inl (inr (inr (inl (inl e))))))) = ap (rows_of trees) e
    of_low (inr (inr (inl (inr (inr (inl (inr w))))))) = absurd w
    of_low (inr (inr (inl (inr (inr (inr (inl (inl e)))))))) = ap (rows_of trees) e
    of_low (inr (inr (inl (inr (inr (inr (inl (inr w)))))))) = absurd w
    of_low (inr (inr (inl (inr (inr (inr (inr w))))))) = absurd w
    of_low (inr (inr (inr w))) = absurd w

    of_least : IsPart t least → IsPlain t
    of_least (inl e) = ap (rows_of trees) e
    of_least (inr (inl (inl e))) = ap (rows_of trees) e
    of_least (inr (inl (inr w))) = absurd w
    of_least (inr (inr (inl (inl e)))) = ap (rows_of trees) e
    of_least (inr (inr (inl (inr w)))) = absurd w
    of_least (inr (inr (inr w))) = absurd w

    by_assertion : (a : Tree) → Contains (low ∷ least ∷ []) a → IsPart t a → IsPlain t
    by_assertion a c part = elim (in_cons low a (least ∷ []) c) [
      | inl e ↦ of_low (subst (IsPart t) e part)
      | inr later ↦ elim (in_cons least a [] later) [ inl e ↦ of_least (subst (IsPart t) e part) | inr past ↦ absurd (in_none a past) ]
    ]

no_rows : (t : Tree) (standing : List Atom) → IsPartOfStack frames t → Contains (division_clauses trees t) (map positive standing) → ⊥
no_rows t standing part c = in_none (map positive standing) (subst (λ rs. Contains (map (row_literals trees (place_of t trees)) rs) (map positive standing)) (plain_part t part) c)

-- x is a half and y is 0
abbrev chosen : ℕ → Ratio
chosen zero = halved (pos 1)
chosen (suc t) = whole (pos 0)

chosen_positive : IsPositive chosen
chosen_positive zero = omega arith
chosen_positive (suc t) = omega arith

met_low : Meets chosen (AtMost minus_both (negsuc 0))
met_low = omega (arith, ints)

met_least : Meets chosen (negation_at_most 0 (pos 0))
met_least = omega (arith, ints)

asserted : (a : Atom) → Contains (asserted_atoms trees frames) a → Meets chosen a
unfolding gcd_of
asserted a c = elim (in_cons (AtMost minus_both (negsuc 0)) a (negation_at_most 0 (pos 0) ∷ []) c) [
  | inl e ↦ subst (Meets chosen) (sym e) met_low
  | inr later ↦ elim (in_cons (negation_at_most 0 (pos 0)) a [] later) [ inl e ↦ subst (Meets chosen) (sym e) met_least | inr past ↦ absurd (in_none a past) ]
]

reached : IsReached trees frames 0 (halved (pos 1))
reached = record { values = chosen; positive = chosen_positive; meets = meets; value = refl }
  where
    meets : (standing : List Atom) → IsStanding trees frames standing → (a : Atom) × Contains standing a × Meets chosen a
    meets standing (inl (a, c, e)) = (a, subst (λ s. Contains s a) (sym e) (0, omega arith, refl), asserted a c)
    meets standing (inr (t, part, c)) = absurd (no_rows t standing part c)

pub half_is_a_branch : HalfIsABranch
unfolding half_line
half_is_a_branch = (table, (record { term = 0; floor = pos 0; is_leaf = x_leaf; row = above_row; branches = half_line; reached = reached }, tt))

-- ---- minus a half

below_x : Contains (asserted_atoms trees frames) (negation_at_most 0 (pos 0))
unfolding gcd_of
below_x = (1, omega arith, refl)

no_minus_half : (q : Ratio) → 0 < q.denominator → SameNumber q (halved (negsuc 0)) → (neg_ℤ (pos 0) *ℤ pos q.denominator) ≤ℤ q.numerator → ⊥
no_minus_half q positive same above_none = omega (arith, ints, positive, same, above_none)

member_is : (b c : Member) → Some b ≡ Some c → b ≡ c
member_is b c e = cc

pub minus_half_is_none : MinusHalfIsNone
minus_half_is_none = (record { row = below_row; floor = minus_half_line }, λ are. none are.0)
  where
    none : IsBranch trees frames sums (IsFirstAtom trees frames) at_minus_half → ⊥
    none b = no_minus_half (b.reached.values 0) (b.reached.positive 0) same low_end
      where
        value_is : b.branches.basic.column.value ≡ halved (negsuc 0)
        value_is = ap (λ (m : Member). m.column.value) (member_is b.branches.basic (basic_member (grid_at None (Some (negsuc 0)) (negsuc 0)) 0) (sym b.branches.is_basic))

        term_is : b.term ≡ 0
        term_is = leaf_is b.term 0 (sym b.branches.is_term ∙ ap (λ (m : Member). m.column.sum) (member_is b.branches.basic (basic_member (grid_at None (Some (negsuc 0)) (negsuc 0)) 0) (sym b.branches.is_basic)))

        same : SameNumber (b.reached.values 0) (halved (negsuc 0))
        same = subst (λ t. SameNumber (b.reached.values t) (halved (negsuc 0))) term_is (subst (SameNumber (b.reached.values b.term)) value_is b.reached.value)

        met : Meets b.reached.values (negation_at_most 0 (pos 0))
        met = let m = b.reached.meets (negation_at_most 0 (pos 0) ∷ []) (inl (negation_at_most 0 (pos 0), below_x, refl)) in
            elim (in_cons (negation_at_most 0 (pos 0)) m.0 [] m.1) [ inl e ↦ subst (Meets b.reached.values) e m.2 | inr past ↦ absurd (in_none m.0 past) ]

        low_end : (neg_ℤ (pos 0) *ℤ pos (b.reached.values 0).denominator) ≤ℤ (b.reached.values 0).numerator
        low_end = negation_is (b.reached.values 0).numerator (b.reached.values 0).denominator (pos 0) met
