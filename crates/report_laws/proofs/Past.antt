-- A number past the range's end is a lawful report.
use Rattle.std.proofs.Common.{◌≡◌, ◌≢◌, ℕ, zero, suc, ◌<◌, inl, inr, pos, subst, refl, arith, List, [], ◌∷◌, false, Some, Contains}
use Rattle.std.proofs.lemmas.List.Elements.{All-nil, All-cons}
use Rattle.fraction128.specs.declared.ratio.Ratio.{Ratio}
use Rattle.fraction128.specs.Number.{whole, SameNumber}
use Rattle.fraction128.specs.Ratio.{IsFraction}
use Rattle.fraction128.specs.Gcd.{gcd_of}
use Rattle.fraction128.proofs.RationalRing.{number_back}
use Rattle.fraction128.proofs.SumValues.{sum_positive_value, number_leaf}
use Rattle.fraction128.specs.declared.Summand.{Summand}
use Rattle.fraction128.specs.declared.Pending.{Pending}
use Rattle.fraction128.specs.Grid.{leaf, take, column_at, is_basic, value_at}
use Rattle.fraction128.specs.Lines.{Bounding, AreSums, HasSum, IsBoundedBy, IsResting, IsSoundGrid, NextFails, sum_value, IsPositive}
use Rattle.smt_meaning.specs.declared.clauses.Atom.TheVariants.{AtMost}
use Rattle.smt_meaning.specs.CheckAtoms.{IsPartOfStack, IsLeaf, IsFirstAtom, IsKnownSum, IsCheckAtom, IsBoundOf}
use Rattle.smt_meaning.specs.Ranges.{IsOnAtom}
use Rattle.report_laws.specs.Past.{greatest, x, end, above, trees, frames, column, grid, StepIsPast}

in_head : {X : Type 0} (y : X) (ys : List X) → Contains (y ∷ ys) y
in_head y ys = (0, omega arith, refl)

x_part : IsPartOfStack frames x
x_part = record { assertion = above; asserted = in_head above []; part = inr (inl (inr (inl (inl refl)))) }

end_part : IsPartOfStack frames end
end_part = record { assertion = above; asserted = in_head above []; part = inr (inl (inr (inr (inl (inl refl))))) }

x_leaf : IsLeaf trees frames 0
x_leaf = record { leaf = x; part = record { part = x_part; int = refl; place_is = refl }; is = refl }

-- x is at most the greatest number: an atom of the check
atom : IsFirstAtom trees frames (AtMost (record { coefficient = pos 1; term = 0 } ∷ []) greatest)
unfolding gcd_of
atom = inr (inl (record { left = x; right = end; left_part = x_part; right_part = end_part; one_sort = refl; among = (1, omega arith, refl) }))

known : IsKnownSum trees frames (leaf 0)
known = IsKnownSum.of_leaf 0 x_leaf refl

table : AreSums (IsKnownSum trees frames) (leaf 0 ∷ [])
table = record {
  apart = λ i j d lt lj e. omega (arith, lt, lj);
  filled = All-cons (λ (ps : List Summand). ps ≢ []) (leaf 0) [] (λ e. cc) (All-nil _);
  known = All-cons (IsKnownSum trees frames) (leaf 0) [] known (All-nil _);
}

zero_fraction : IsFraction (whole (pos 0))
unfolding gcd_of
zero_fraction = record { positive = omega arith; lowest = refl; numerator_in = omega arith; denominator_in = omega arith }

leaf_value : (w : ℕ → Ratio) → IsPositive w → SameNumber (sum_value w (leaf 0)) (w 0)
leaf_value w p = number_back (sum_value w (leaf 0)) (w 0) (sum_positive_value w (leaf 0) p) (p 0) (number_leaf w 0 p)

module _ (B : Bounding) where
  free : IsBoundedBy B column
  free = record { lower = λ k e. absurd (cc); upper = λ k e. absurd (cc) }

  sound : IsSoundGrid (leaf 0 ∷ []) B grid
  sound = record {
    columns = columns;
    rows = record { each = All-nil _; apart = λ i j d lt lj. absurd (omega (arith, lt, lj)) };
    identities = λ w p. All-nil _;
    independent = λ v p. ((λ t. v 0), (λ t. p 0), values v p);
    fractions = fractions;
    meets = All-nil _;
    bounded = bounded;
    resting = resting;
  }
    where
      columns : (i : ℕ) → i < 1 → HasSum (leaf 0 ∷ []) i (column_at grid i)
      columns zero lt = (omega arith, refl)
      columns (suc i) lt = absurd (omega (arith, lt))

      values : (v : ℕ → Ratio) → IsPositive v → (i : ℕ) → i < 1 → is_basic grid.rows i ≡ false → SameNumber (sum_value (λ t. v 0) (column_at grid i).sum) (v i)
      values v p zero lt f = leaf_value (λ t. v 0) (λ t. p 0)
      values v p (suc i) lt f = absurd (omega (arith, lt))

      fractions : (i : ℕ) → i < 1 → IsFraction (value_at grid i)
      fractions zero lt = zero_fraction
      fractions (suc i) lt = absurd (omega (arith, lt))

      bounded : (i : ℕ) → i < 1 → IsBoundedBy B (column_at grid i)
      bounded zero lt = free
      bounded (suc i) lt = absurd (omega (arith, lt))

      resting : (i : ℕ) → i < 1 → is_basic grid.rows i ≡ false → IsResting B (column_at grid i)
      resting zero lt f = inl refl
      resting (suc i) lt f = absurd (omega (arith, lt))

fails : NextFails grid
fails = record { step = take (record { sum = leaf 0; number = greatest; holds = false }); next = refl; fails = refl }

pending : (p : Pending) → grid.pending ≡ Some p → IsOnAtom (IsCheckAtom trees frames []) p
pending p e = subst (IsOnAtom (IsCheckAtom trees frames [])) (some e) (record { terms = record { coefficient = pos 1; term = 0 } ∷ []; atom = atom; sum_is = refl })
  where
    some : Some (record { sum = leaf 0; number = greatest; holds = false }) ≡ Some p → record { sum = leaf 0; number = greatest; holds = false } ≡ p
    some e = cc

pub step_is_past : StepIsPast
step_is_past limit = record {
  sums = leaf 0 ∷ [];
  known = table;
  are_branches = tt;
  leaves = record { grid = sound (IsBoundOf (IsCheckAtom trees frames [])); pending = pending; next = fails };
}
