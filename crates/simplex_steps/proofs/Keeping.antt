-- Next steps keep what holds of grids.
use Rattle.std.proofs.Common.{◌≡◌, ◌≢◌, ℕ, ◌<◌, sym, ap, ◌∙◌, subst, refl, arith, List, [], ◌∷◌, length, get_or, Bool, true, false, cond, eqb, eqb-true, eq-eqb, None, unsigned_abs}
use Rattle.std.proofs.lemmas.List.{get_or_default}
use Rattle.fraction128.specs.declared.ratio.Ratio.{Ratio}
use Rattle.fraction128.specs.Number.{whole}
use Rattle.fraction128.specs.Listed.{fused}
use Rattle.fraction128.specs.declared.Entry.{Entry}
use Rattle.fraction128.specs.declared.Column.{Column}
use Rattle.fraction128.specs.declared.TableRow.{TableRow}
use Rattle.fraction128.specs.declared.Grid.{Grid}
use Rattle.fraction128.specs.Grid.{take, move, pivot, coefficient, cell, is_basic, value_at, missed, distance, after_pivot, after_move, moved_value, MeetsRow}
use Rattle.fraction128.proofs.RowValue as RowValue
use Rattle.simplex_steps.specs.Law.{row_at, no_row, AreFrom, ArePositive, IsLawful, StepsKeep, MovesSettle, PivotsSettle}
use Rattle.simplex_steps.proofs.Spans.{coefficient_positive, dot_coefficients, differs}
use Rattle.simplex_steps.proofs.Bland.{zero_back}
use Rattle.simplex_steps.proofs.NextStep.{col, MoveFacts, PivotFacts, step_facts}
use Rattle.simplex_steps.proofs.Moments.{Good, numbers, turning, good_after, good_moved, length_with, col_with}
use Rattle.simplex_steps.proofs.Short.{within_bounds, crossed_at, settled_after, good_grid}

pub good_of : (g : Grid) → IsLawful g → Good (length g.columns) g
good_of g h = good_grid g h.grid h.pending h.meets h.uncrossed

positive_back : (es : List Entry) → RowValue.ArePositive es → ArePositive es
positive_back [] h = tt
positive_back (e ∷ es) h = (h.0, positive_back es h.1)

pub lawful_of : (n : ℕ) (g : Grid) → Good n g → IsLawful g
lawful_of n g good =
    record {
      grid = record {
        distinct = good.shape.distinct;
        basics = λ k lt. subst (λ m. (row_at g.rows k).basic < m) (sym good.count) (good.shape.basics k lt);
        entries = λ k lt. subst (λ m. AreFrom 0 m (row_at g.rows k).entries) (sym good.count) (good.shape.entries k lt);
        positive = λ k lt. positive_back (row_at g.rows k).entries (good.shape.positive k lt);
        separate = λ j k lj lk.
            eq-eqb (unsigned_abs (coefficient (row_at g.rows k).entries (row_at g.rows j).basic).numerator) 0
            (ap unsigned_abs
            (zero_back (coefficient (row_at g.rows k).entries (row_at g.rows j).basic) (coefficient_positive (row_at g.rows k).entries (row_at g.rows j).basic (good.shape.positive k lk)) (good.shape.separate j k lj lk)));
        values = good.positive;
      };
      pending = good.pending;
      meets = λ k d lt. meets_at k d lt;
      uncrossed = good.uncrossed;
    }
  where
    at : (k : ℕ) → k < length g.rows → MeetsRow (value_at g) (row_at g.rows k)
    at k lt =
        RowValue.meets_from (value_at g) (row_at g.rows k) good.positive (good.shape.positive k lt)
        (good.solves k lt ∙ sym (dot_coefficients 0 n (row_at g.rows k).entries (numbers g) (good.shape.entries k lt)))

    meets_at : (k : ℕ) (d : TableRow) → k < length g.rows → MeetsRow (value_at g) (get_or g.rows k d)
    meets_at k d lt = subst (MeetsRow (value_at g)) (get_or_default g.rows k no_row d lt) (at k lt)

pub steps_keep : StepsKeep
steps_keep g (take p) h next = absurd (step_facts g (take p) h.pending h.uncrossed next)
steps_keep g (move i k) h next =
    lawful_of (length g.columns) (after_move g i k) (good_moved (length g.columns) g i k (good_of g h) (step_facts g (move i k) h.pending h.uncrossed next))
steps_keep g (pivot b k c) h next =
    let good = good_of g h in
    lawful_of (length g.columns) (after_pivot g b k c)
    (good_after (length g.columns) g b k c good (turning (length g.columns) g b k c good (step_facts g (pivot b k c) h.pending h.uncrossed next)))

pub moves_settle : MovesSettle
moves_settle g i k h next settled j lt lj free = by_test (eqb j i) refl
  where
    f : MoveFacts g i k
    f = step_facts g (move i k) h.pending h.uncrossed next

    inside : j < length g.columns
    inside = subst (λ m. j < m) (length_with (moved_value g i k) 0 g.columns) lj

    column_is : col (after_move g i k).columns j ≡ record { sum = (col g.columns j).sum; lower = (col g.columns j).lower; upper = (col g.columns j).upper; value = moved_value g i k j }
    column_is = col_with (moved_value g i k) 0 g.columns j j (omega arith) inside

    with : Ratio → Column
    with x = record { sum = (col g.columns j).sum; lower = (col g.columns j).lower; upper = (col g.columns j).upper; value = x }

    by_test : (z : Bool) → eqb j i ≡ z → missed (col (after_move g i k).columns j) ≡ None
    by_test true e =
        let same : j ≡ i = eqb-true j i e in
        ap missed (column_is ∙ ap with (ap (λ z. cond z (whole k) (cond (is_basic g.rows j) (fused (value_at g j) (cell g.rows j i) (distance k (value_at g i))) (value_at g j))) e))
        ∙ within_bounds (whole k) (col g.columns j) k (crossed_at g.columns h.uncrossed j inside) (ap (λ q. missed (col g.columns q)) same ∙ f.outside)
    by_test false e =
        let ne : j ≢ i = differs j i e in
        ap missed (column_is
        ∙ ap with (ap (λ z. cond z (whole k) (cond (is_basic g.rows j) (fused (value_at g j) (cell g.rows j i) (distance k (value_at g i))) (value_at g j))) e
        ∙ ap (λ z. cond z (fused (value_at g j) (cell g.rows j i) (distance k (value_at g i))) (value_at g j)) free))
        ∙ settled j (omega (arith, lt, ne)) inside free

pub pivots_settle : PivotsSettle
pivots_settle g b k c h next j lt lj free =
    let good = good_of g h in
    let f : PivotFacts g b k c = step_facts g (pivot b k c) h.pending h.uncrossed next in
    let t = turning (length g.columns) g b k c good f in
    settled_after (length g.columns) g b k c good f t (good_after (length g.columns) g b k c good t) j lj free
