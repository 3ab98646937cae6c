-- A row whose value leaves the range, and a pivot, are lawful reports.
use Rattle.fraction128.proofs.RingEquations as Ring
use Rattle.fraction128.proofs.RingEquations.{var, product, minus, nothing, unit, solve}
use Rattle.fraction128.specs.Number.{unreduced_sum, unreduced_product}
use Rattle.fraction128.proofs.LowestTerms.{pos_times}
use Rattle.fraction128.proofs.RationalRing.{Rational, number_plus, number_times, rational_one, rational_one-is, rationals}
use Rattle.std.proofs.Common.{◌≡◌, ℕ, ℤ, zero, suc, ◌*◌, ◌<◌, inl, inr, pos, negsuc, sym, ap, ap₂, ◌∙◌, subst, refl, arith, [], ◌∷◌, true, false, Option, Some, None}
use Rattle.std.proofs.lemmas.List.Elements.{All-nil, All-cons}
use Rattle.fraction128.specs.declared.ratio.Ratio.{Ratio}
use Rattle.fraction128.specs.Number.{whole, SameNumber}
use Rattle.fraction128.specs.Ratio.{IsFraction}
use Rattle.fraction128.specs.Gcd.{gcd_of}
use Rattle.fraction128.specs.Listed.{sum_of, sum_over, reduced_by, sum_steps, product_of, product_steps}
use Rattle.fraction128.proofs.RationalRing.{number, number_back, rational_sum, rational_product, rational_zero}
use Rattle.fraction128.specs.declared.Grid.{Grid}
use Rattle.fraction128.specs.declared.Pending.{Pending}
use Rattle.fraction128.specs.declared.Side.TheVariants.{Lower}
use Rattle.fraction128.specs.Grid.{leaf, move, column_at, is_basic, value_at, MeetsRow}
use Rattle.fraction128.specs.Lines.{Bounding, AreSums, HasSum, IsBoundedBy, IsResting, IsEntry, IsRow, IsSoundGrid, NextFails, IsPivotIn, first_basis, exchanged, sum_value, IsPositive, pivot_line}
use Rattle.fraction128.proofs.RowValue.{dot}
use Rattle.report_laws.proofs.TwoLeaves.{below_three, leaf_at, stack_table, zero_fraction, one_fraction, minus_fraction, minus_one_is, one_not_none, minus_not_none, leaf_value, some_is, none_is, basic_is, sound_grid}
use Rattle.fraction128.proofs.SumValues.{sum_positive_value, number_sum_value, number_leaf}
use Rattle.smt_meaning.specs.declared.clauses.Summand as Terms
use Rattle.smt_meaning.specs.declared.clauses.Atom.{Atom}
use Rattle.smt_meaning.specs.declared.clauses.Atom.TheVariants.{AtMost}
use Rattle.smt_meaning.specs.declared.reports.Unit.TheVariants.{Pivot}
use Rattle.smt_meaning.specs.CheckAtoms.{IsPartOfStack, IsFirstAtom, IsKnownSum, IsCheckAtom, IsBoundOf}
use Rattle.smt_meaning.specs.Ranges.{IsOnAtom}
use Rattle.smt_meaning.specs.Report.{no_units, one_more_unit}
use Rattle.report_laws.specs.Sum.{greatest, x, y, end, sum, low, trees, frames, both, entry, row, grid_of, moving, pivoting, minus_entry, back_row, least, back, to_and_fro, sums, SumIsPast, OnePivot, EachIsAPivot}

abbrev Is : Atom → Type 0
Is a = IsCheckAtom trees frames [] a

-- ---- the table

x_part : IsPartOfStack frames x
x_part = record { assertion = low; asserted = (0, omega arith, refl); part = inr (inr (inl (inr (inl (inl refl))))) }

y_part : IsPartOfStack frames y
y_part = record { assertion = low; asserted = (0, omega arith, refl); part = inr (inr (inl (inr (inr (inl (inl refl)))))) }

end_part : IsPartOfStack frames end
end_part = record { assertion = low; asserted = (0, omega arith, refl); part = inr (inl (inl refl)) }

sum_part : IsPartOfStack frames sum
sum_part = record { assertion = low; asserted = (0, omega arith, refl); part = inr (inr (inl (inl refl))) }

abbrev minus_one : ℕ → Terms.Summand
minus_one t = record { coefficient = negsuc 0; term = t }

abbrev minus_end : ℤ
minus_end = negsuc 170141183460469231731687303715884105726

-- MAX is at most x, at most y, and at most x + y
x_atom : IsFirstAtom trees frames (AtMost (minus_one 0 ∷ []) minus_end)
unfolding gcd_of
x_atom = inr (inl (record { left = end; right = x; left_part = end_part; right_part = x_part; one_sort = refl; among = (1, omega arith, refl) }))

y_atom : IsFirstAtom trees frames (AtMost (minus_one 1 ∷ []) minus_end)
unfolding gcd_of
y_atom = inr (inl (record { left = end; right = y; left_part = end_part; right_part = y_part; one_sort = refl; among = (1, omega arith, refl) }))

sum_atom : IsFirstAtom trees frames (AtMost (minus_one 0 ∷ minus_one 1 ∷ []) minus_end)
unfolding gcd_of
sum_atom = inr (inl (record { left = end; right = sum; left_part = end_part; right_part = sum_part; one_sort = refl; among = (1, omega arith, refl) }))

table : AreSums (IsKnownSum trees frames) sums
table = stack_table trees frames both refl (leaf_at trees frames x 0 x_part refl refl refl) (leaf_at trees frames y 1 y_part refl refl refl) (minus_one 0 ∷ minus_one 1 ∷ []) minus_end sum_atom refl

-- ---- the grids

end_fraction : IsFraction (whole greatest)
unfolding gcd_of
end_fraction = record { positive = omega arith; lowest = refl; numerator_in = omega arith; denominator_in = omega arith }

abbrev given : (ℕ → Ratio) → ℕ → Ratio
given v zero = v 0
given v (suc t) = v 1

given_positive : (v : ℕ → Ratio) → IsPositive v → IsPositive (given v)
given_positive v p zero = p 0
given_positive v p (suc t) = p 1

module _ (a : Option ℤ) (u : ℤ) (b : Option ℤ) (v : ℤ) (c : Option ℤ) (w : ℤ) where
  abbrev g : Grid
  g = grid_of a u b v c w

  entry_is : (i : ℕ) → i < 3 → is_basic g.rows i ≡ false → IsEntry g (entry i)
  entry_is i lt free = record { fraction = one_fraction; nonzero = one_not_none; known = lt; free = free }

  row_is : IsRow g row
  row_is = record {
    known = omega arith;
    ascending = (omega arith, (omega arith, tt));
    entries = All-cons (IsEntry g) (entry 0) (entry 1 ∷ []) (entry_is 0 (omega arith) refl) (All-cons (IsEntry g) (entry 1) [] (entry_is 1 (omega arith) refl) (All-nil _));
  }

  identity : (f : ℕ → Ratio) → IsPositive f → number (sum_value f both) ≡ dot (λ i. number (sum_value f (column_at g i).sum)) row.entries
  identity f p =
      number_sum_value f both p
      ∙ ap₂ (λ s t. rational_sum (rational_product (number (whole (pos 1))) s) (rational_sum (rational_product (number (whole (pos 1))) t) rational_zero)) (sym (number_leaf f 0 p)) (sym (number_leaf f 1 p))

  module _ (B : Bounding) (fu : IsFraction (whole u)) (fv : IsFraction (whole v)) (fw : IsFraction (whole w)) (met : MeetsRow (value_at g) row)
      (ba : (k : ℤ) → a ≡ Some k → B (leaf 0) Lower k) (bb : (k : ℤ) → b ≡ Some k → B (leaf 1) Lower k) (bc : (k : ℤ) → c ≡ Some k → B both Lower k)
      (ru : IsResting B (column_at g 0)) (rv : IsResting B (column_at g 1)) where
    sound : IsSoundGrid sums B g
    sound = sound_grid (column_at g 0) (column_at g 1) (column_at g 2) row sums B row_is (omega arith, (omega arith, tt)) met identity given given_positive
        (λ f p. below_three (λ i. is_basic g.rows i ≡ false → SameNumber (sum_value (given f) (column_at g i).sum) (f i)) (λ free. leaf_value (given f) 0 (given_positive f p)) (λ free. leaf_value (given f) 1 (given_positive f p)) basic_is)
        (below_three (λ i. HasSum sums i (column_at g i)) (omega arith, refl) (omega arith, refl) (omega arith, refl))
        (below_three (λ i. IsFraction (value_at g i)) fu fv fw)
        (below_three (λ i. IsBoundedBy B (column_at g i)) (record { lower = ba; upper = λ k e. none_is k e }) (record { lower = bb; upper = λ k e. none_is k e }) (record { lower = bc; upper = λ k e. none_is k e }))
        (below_three (λ i. is_basic g.rows i ≡ false → IsResting B (column_at g i)) (λ free. ru) (λ free. rv) basic_is)

-- ---- bounds

x_bound : IsBoundOf Is (leaf 0) Lower greatest
x_bound = record { terms = minus_one 0 ∷ []; most = minus_end; positive = true; atom = x_atom; sum_is = refl; side_is = refl; number_is = refl }

y_bound : IsBoundOf Is (leaf 1) Lower greatest
y_bound = record { terms = minus_one 1 ∷ []; most = minus_end; positive = true; atom = y_atom; sum_is = refl; side_is = refl; number_is = refl }

sum_bound : IsBoundOf Is both Lower greatest
sum_bound = record { terms = minus_one 0 ∷ minus_one 1 ∷ []; most = minus_end; positive = true; atom = sum_atom; sum_is = refl; side_is = refl; number_is = refl }

-- ---- reports

moving_sound : IsSoundGrid sums (IsBoundOf Is) moving
moving_sound =
    sound (Some greatest) greatest (Some greatest) (pos 0) None greatest (IsBoundOf Is) end_fraction zero_fraction end_fraction refl (λ k e. subst (IsBoundOf Is (leaf 0) Lower) (some_is greatest k e) x_bound)
    (λ k e. subst (IsBoundOf Is (leaf 1) Lower) (some_is greatest k e) y_bound) (λ k e. none_is k e) (inr (Lower, greatest, refl, x_bound)) (inl refl)

moving_fails : NextFails moving
unfolding gcd_of sum_of sum_over reduced_by sum_steps product_of product_steps
moving_fails = record { step = move 1 greatest; next = refl; fails = refl }

pub sum_is_past : SumIsPast
sum_is_past limit = record { sums = sums; known = table; are_branches = tt; leaves = record { grid = moving_sound; pending = λ p e. nothing p e; next = moving_fails } }
  where
    nothing : (p : Pending) → None ≡ Some p → IsOnAtom Is p
    nothing p e = absurd (cc)

pivoting_sound : IsSoundGrid sums (IsBoundOf Is) pivoting
pivoting_sound =
    sound None (pos 0) None (pos 0) (Some greatest) (pos 0) (IsBoundOf Is) zero_fraction zero_fraction zero_fraction refl (λ k e. none_is k e) (λ k e. none_is k e)
    (λ k e. subst (IsBoundOf Is both Lower) (some_is greatest k e) sum_bound) (inl refl) (inl refl)

basis : (i : ℕ) → i < 3 → is_basic pivoting.rows i ≡ first_basis sums i
basis = below_three (λ i. is_basic pivoting.rows i ≡ first_basis sums i) refl refl refl

pivoting_is : IsPivotIn sums (IsBoundOf Is) (first_basis sums) (pivot_line pivoting 2 0)
pivoting_is = record { grid = pivoting; sound = pivoting_sound; basis = basis; leaves = 2; number = greatest; enters = 0; next = refl; line = refl }

pub one_pivot : OnePivot
one_pivot = record {
  count = refl;
  sums = sums;
  known = table;
  are_branches = tt;
  units = one_more_unit trees frames [] (pos 1) [] (Pivot (pivot_line pivoting 2 0)) (no_units trees frames [] (pos 1)) refl;
  chained = (pivoting_is, tt, tt);
}

-- ---- to and fro

least_fraction : IsFraction (whole least)
unfolding gcd_of
least_fraction = record { positive = omega arith; lowest = refl; numerator_in = omega arith; denominator_in = omega arith }

back_is : IsRow back back_row
back_is = record {
  known = omega arith;
  ascending = (omega arith, (omega arith, tt));
  entries = All-cons (IsEntry back) (minus_entry 1) (entry 2 ∷ []) (record { fraction = minus_fraction; nonzero = minus_not_none; known = omega arith; free = refl })
      (All-cons (IsEntry back) (entry 2) [] (record { fraction = one_fraction; nonzero = one_not_none; known = omega arith; free = refl }) (All-nil _));
}

back_identity : (f : ℕ → Ratio) → IsPositive f → number (sum_value f (leaf 0)) ≡ dot (λ i. number (sum_value f (column_at back i).sum)) back_row.entries
back_identity f p =
    let X : Rational = number (f 0) in
    let Y : Rational = number (f 1) in
    number_leaf f 0 p
    ∙ solve rationals (X ∷ Y ∷ []) (var 0) (Ring.sum (product (minus unit) (var 1)) (Ring.sum (product unit (Ring.sum (product unit (var 0)) (Ring.sum (product unit (var 1)) nothing))) nothing)) refl
    ∙ ap (λ m. rational_sum (rational_product m Y) (rational_sum (rational_product rational_one (rational_sum (rational_product rational_one X) (rational_sum (rational_product rational_one Y) rational_zero))) rational_zero)) (sym minus_one_is)
    ∙ ap (λ o. rational_sum (rational_product (number (whole (negsuc 0))) Y) (rational_sum (rational_product o (rational_sum (rational_product o X) (rational_sum (rational_product o Y) rational_zero))) rational_zero)) rational_one-is
    ∙ ap₂ (λ s t. rational_sum (rational_product (number (whole (negsuc 0))) s) (rational_sum (rational_product (number (whole (pos 1))) t) rational_zero)) (sym (number_leaf f 1 p)) (sym (number_sum_value f both p))

-- values of x and y at which y and x + y have these
abbrev lifted : (ℕ → Ratio) → ℕ → Ratio
lifted v zero = unreduced_sum (v 2) (unreduced_product (whole (negsuc 0)) (v 1))
lifted v (suc t) = v 1

lifted_positive : (v : ℕ → Ratio) → IsPositive v → IsPositive (lifted v)
lifted_positive v p zero = pos_times (v 2).denominator (1 * (v 1).denominator) (p 2) (pos_times 1 (v 1).denominator (omega arith) (p 1))
lifted_positive v p (suc t) = p 1

lifted_sum : (v : ℕ → Ratio) → IsPositive v → SameNumber (sum_value (lifted v) both) (v 2)
lifted_sum v p =
    let w = lifted v in
    let fw = lifted_positive v p in
    number_back (sum_value w both) (v 2) (sum_positive_value w both fw) (p 2)
    (number_sum_value w both fw
    ∙ ap (λ o. rational_sum (rational_product o (number (w 0))) (rational_sum (rational_product o (number (v 1))) rational_zero)) (sym rational_one-is)
    ∙ ap (λ x_. rational_sum (rational_product rational_one x_) (rational_sum (rational_product rational_one (number (v 1))) rational_zero))
    (number_plus (v 2) (unreduced_product (whole (negsuc 0)) (v 1)) (p 2) (pos_times 1 (v 1).denominator (omega arith) (p 1))
    ∙ ap (rational_sum (number (v 2))) (number_times (whole (negsuc 0)) (v 1) (omega arith) (p 1) ∙ ap (λ m. rational_product m (number (v 1))) minus_one_is))
    ∙ solve rationals (number (v 2) ∷ number (v 1) ∷ []) (Ring.sum (product unit (Ring.sum (var 0) (product (minus unit) (var 1)))) (Ring.sum (product unit (var 1)) nothing)) (var 0) refl)

back_sound : IsSoundGrid sums (IsBoundOf Is) back
back_sound = sound_grid (column_at back 0) (column_at back 1) (column_at back 2) back_row sums (IsBoundOf Is) back_is (omega arith, (omega arith, tt)) refl back_identity lifted lifted_positive
    (λ v p. below_three (λ i. is_basic back.rows i ≡ false → SameNumber (sum_value (lifted v) (column_at back i).sum) (v i)) basic_is (λ free. leaf_value (lifted v) 1 (lifted_positive v p)) (λ free. lifted_sum v p))
    (below_three (λ i. HasSum sums i (column_at back i)) (omega arith, refl) (omega arith, refl) (omega arith, refl))
    (below_three (λ i. IsFraction (value_at back i)) least_fraction end_fraction zero_fraction)
    (below_three (λ i. IsBoundedBy (IsBoundOf Is) (column_at back i)) (record { lower = λ k e. subst (IsBoundOf Is (leaf 0) Lower) (some_is greatest k e) x_bound; upper = λ k e. none_is k e })
    (record { lower = λ k e. subst (IsBoundOf Is (leaf 1) Lower) (some_is greatest k e) y_bound; upper = λ k e. none_is k e }) (record { lower = λ k e. none_is k e; upper = λ k e. none_is k e }))
    (below_three (λ i. is_basic back.rows i ≡ false → IsResting (IsBoundOf Is) (column_at back i)) basic_is (λ free. inr (Lower, greatest, refl, y_bound)) (λ free. inl refl))

pub each_is_a_pivot : EachIsAPivot
each_is_a_pivot = (
  pivoting_is,
  record { grid = back; sound = back_sound; basis = below_three (λ i. is_basic back.rows i ≡ exchanged (to_and_fro true) (first_basis sums) i) refl refl refl; leaves = 0; number = greatest; enters = 2; next = refl; line = refl },
)
