-- Where the values of variables that aren't basic stand after a run.
use Rattle.std.proofs.Common.{◌≡◌, ℕ, ℤ, ◌<◌, ◌⊎◌, inl, inr, sym, ap, ◌∙◌, subst, refl, arith, List, [], ◌∷◌, length, Bool, true, false, cond, eqb, eqb-true, Some}
use Rattle.fraction128.specs.declared.ratio.Ratio.{Ratio}
use Rattle.fraction128.specs.Number.{whole, is_less}
use Rattle.fraction128.specs.Listed.{fused}
use Rattle.fraction128.specs.declared.Column.{Column}
use Rattle.fraction128.specs.declared.TableRow.{TableRow}
use Rattle.fraction128.specs.declared.Grid.{Grid}
use Rattle.fraction128.specs.Grid.{Step, take, move, pivot, cell, is_basic, column_at, value_at, missed, next_step, distance, moved_value, pivoted_value, with_values, after_move, after_pivot, pivoted_rows}
use Rattle.simplex_steps.specs.Law.{IsLawful, Runs, IsAtBound, KeepsResting, RunsRest}
use Rattle.simplex_steps.proofs.Spans.{differs}
use Rattle.simplex_steps.proofs.Bland.{missed_cases}
use Rattle.simplex_steps.proofs.Pivots.{length_after}
use Rattle.simplex_steps.proofs.NextStep.{col, MoveFacts, PivotFacts, step_facts}
use Rattle.simplex_steps.proofs.Moments.{Good, Turning, entered_at, turning, good_after, length_with, col_with, pivot_value, pivot_stays, pivot_leaves, is_free, free_is, basic_is}
use Rattle.simplex_steps.proofs.Short.{free_before}
use Rattle.simplex_steps.proofs.Keeping.{good_of, steps_keep}

-- two columns with the same bounds
record HasSame (c d : Column) : Type 0 where
  pub lower : c.lower ≡ d.lower
  pub upper : c.upper ≡ d.upper

-- so many columns, of which each has the bounds that it had
record StillBounded (g h : Grid) : Type 0 where
  pub count : length h.columns ≡ length g.columns
  pub each : (j : ℕ) → j < length g.columns → HasSame (column_at h j) (column_at g j)

still_with : (g : Grid) (f : ℕ → Ratio) (rows : List TableRow) → StillBounded g (record { columns = with_values f 0 g.columns; rows = rows; pending = g.pending })
still_with g f rows =
    record {
      count = length_with f 0 g.columns;
      each = λ j lt. let e = col_with f 0 g.columns j j (omega arith) lt in record { lower = ap (λ (c : Column). c.lower) e; upper = ap (λ (c : Column). c.upper) e };
    }

still_through : (g h k : Grid) → StillBounded g h → StillBounded h k → StillBounded g k
still_through g h k p q =
    record {
      count = q.count ∙ p.count;
      each = λ j lt. let a = p.each j lt in let c = p.count in let b = q.each j (omega (arith, lt, c)) in record { lower = b.lower ∙ a.lower; upper = b.upper ∙ a.upper };
    }

still_run : (g h : Grid) (ss : List Step) → IsLawful g → Runs g ss h → StillBounded g h
still_run g h [] law runs = subst (StillBounded g) runs (record { count = refl; each = λ j lt. record { lower = refl; upper = refl } })
still_run g h (take p ∷ ss) law runs = absurd (step_facts g (take p) law.pending law.uncrossed runs.0)
still_run g h (move i k ∷ ss) law runs =
    still_through g (after_move g i k) h (still_with g (moved_value g i k) g.rows) (still_run (after_move g i k) h ss (steps_keep g (move i k) law runs.0) runs.1)
still_run g h (pivot b k c ∷ ss) law runs =
    still_through g (after_pivot g b k c) h (still_with g (pivoted_value g b k c) (pivoted_rows (length g.columns) g.rows b c)) (still_run (after_pivot g b k c) h ss (steps_keep g (pivot b k c) law runs.0) runs.1)

-- a column that got the bound that it missed as value
at_missed : (c d : Column) (k : ℤ) → missed c ≡ Some k → d.value ≡ whole k → HasSame d c → IsAtBound d
at_missed c d k m v same = (k, v, by_side (missed_cases c k m))
  where
    by_side : ((c.lower ≡ Some k) × (is_less c.value (whole k) ≡ true)) ⊎ ((c.upper ≡ Some k) × (is_less (whole k) c.value ≡ true)) → (d.lower ≡ Some k) ⊎ (d.upper ≡ Some k)
    by_side (inl h) = inl (same.lower ∙ h.0)
    by_side (inr h) = inr (same.upper ∙ h.0)

move_rests : (g : Grid) (i : ℕ) (k : ℤ) → IsLawful g → next_step g ≡ Some (move i k) → KeepsResting g (after_move g i k)
move_rests g i k law next j lt' free = by_test (eqb j i) refl
  where
    f : MoveFacts g i k
    f = step_facts g (move i k) law.pending law.uncrossed next

    lt : j < length g.columns
    lt = subst (λ m. j < m) (length_with (moved_value g i k) 0 g.columns) lt'

    value_is : value_at (after_move g i k) j ≡ moved_value g i k j
    value_is = ap (λ (c : Column). c.value) (col_with (moved_value g i k) 0 g.columns j j (omega arith) lt)

    by_test : (z : Bool) → eqb j i ≡ z → IsAtBound (column_at (after_move g i k) j) ⊎ ((is_basic g.rows j ≡ false) × (value_at (after_move g i k) j ≡ value_at g j))
    by_test true e =
        inl (at_missed (column_at g j) (column_at (after_move g i k) j) k (ap (λ q. missed (col g.columns q)) (eqb-true j i e) ∙ f.outside)
        (value_is ∙ ap (λ z. cond z (whole k) (cond (is_basic g.rows j) (fused (value_at g j) (cell g.rows j i) (distance k (value_at g i))) (value_at g j))) e)
        ((still_with g (moved_value g i k) g.rows).each j lt))
    by_test false e =
        inr (
          free,
          value_is ∙ ap (λ z. cond z (whole k) (cond (is_basic g.rows j) (fused (value_at g j) (cell g.rows j i) (distance k (value_at g i))) (value_at g j))) e
              ∙ ap (λ z. cond z (fused (value_at g j) (cell g.rows j i) (distance k (value_at g i))) (value_at g j)) free,
        )

pivot_rests : (g : Grid) (b : ℕ) (k : ℤ) (c : ℕ) → IsLawful g → next_step g ≡ Some (pivot b k c) → KeepsResting g (after_pivot g b k c)
pivot_rests g b k c law next j lt' free = by_leaving (eqb j b) refl (eqb j c) refl
  where
    good : Good (length g.columns) g
    good = good_of g law

    f : PivotFacts g b k c
    f = step_facts g (pivot b k c) law.pending law.uncrossed next

    t : Turning (length g.columns) g b c
    t = turning (length g.columns) g b k c good f

    later : Good (length g.columns) (after_pivot g b k c)
    later = good_after (length g.columns) g b k c good t

    lt : j < length g.columns
    lt = subst (λ m. j < m) (length_with (pivoted_value g b k c) 0 g.columns) lt'

    entered : is_basic (after_pivot g b k c).rows c ≡ true
    entered =
        ap (is_basic (pivoted_rows (length g.columns) g.rows b c)) (sym (entered_at (length g.columns) g b c t))
        ∙ basic_is (length g.columns) (pivoted_rows (length g.columns) g.rows b c) t.place later.shape
        (subst (λ m. t.place < m) (sym (length_after (length g.columns) g.rows b c)) t.pivot.in_rows)

    by_leaving : (z : Bool) → eqb j b ≡ z → (y : Bool) → eqb j c ≡ y → IsAtBound (column_at (after_pivot g b k c) j) ⊎ ((is_basic g.rows j ≡ false) × (value_at (after_pivot g b k c) j ≡ value_at g j))
    by_leaving true e y w =
        let at : j ≡ b = eqb-true j b e in
        inl (at_missed (column_at g j) (column_at (after_pivot g b k c) j) k (ap (λ q. missed (col g.columns q)) at ∙ f.outside)
        (pivot_value g b k c j lt ∙ ap (pivoted_value g b k c) at ∙ pivot_leaves g b k c)
        ((still_with g (pivoted_value g b k c) (pivoted_rows (length g.columns) g.rows b c)).each j lt))
    by_leaving false e true w =
        absurd (let z : true ≡ false = sym entered ∙ ap (is_basic (after_pivot g b k c).rows) (sym (eqb-true j c w)) ∙ free in cc)
    by_leaving false e false w =
        let was = free_before (length g.columns) g b k c j good t (differs j b e) (is_free (length g.columns) (after_pivot g b k c).rows j later.shape free) in
        inr (free_is g.rows j was, pivot_value g b k c j lt ∙ pivot_stays (length g.columns) g b k c j good.shape (differs j b e) (differs j c w) was)

rests_through : (g h k : Grid) → StillBounded h k → KeepsResting g h → KeepsResting h k → KeepsResting g k
rests_through g h k same p q j lt free = by_last (q j lt free)
  where
    inside : j < length h.columns
    inside = let c = same.count in omega (arith, lt, c)

    by_last : IsAtBound (column_at k j) ⊎ ((is_basic h.rows j ≡ false) × (value_at k j ≡ value_at h j)) → IsAtBound (column_at k j) ⊎ ((is_basic g.rows j ≡ false) × (value_at k j ≡ value_at g j))
    by_last (inl a) = inl a
    by_last (inr r) = by_first (p j inside r.0)
      where
        by_bound : (i : ℤ) → ((column_at h j).lower ≡ Some i) ⊎ ((column_at h j).upper ≡ Some i) → ((column_at k j).lower ≡ Some i) ⊎ ((column_at k j).upper ≡ Some i)
        by_bound i (inl e) = inl ((same.each j inside).lower ∙ e)
        by_bound i (inr e) = inr ((same.each j inside).upper ∙ e)

        by_first : IsAtBound (column_at h j) ⊎ ((is_basic g.rows j ≡ false) × (value_at h j ≡ value_at g j)) → IsAtBound (column_at k j) ⊎ ((is_basic g.rows j ≡ false) × (value_at k j ≡ value_at g j))
        by_first (inl a) = inl (a.0, r.1 ∙ a.1, by_bound a.0 a.2)
        by_first (inr s) = inr (s.0, r.1 ∙ s.1)

pub runs_rest : RunsRest
runs_rest g h [] law runs = subst (KeepsResting g) runs (λ j lt free. inr (free, refl))
runs_rest g h (take p ∷ ss) law runs = absurd (step_facts g (take p) law.pending law.uncrossed runs.0)
runs_rest g h (move i k ∷ ss) law runs =
    let law' = steps_keep g (move i k) law runs.0 in
    rests_through g (after_move g i k) h (still_run (after_move g i k) h ss law' runs.1) (move_rests g i k law runs.0) (runs_rest (after_move g i k) h ss law' runs.1)
runs_rest g h (pivot b k c ∷ ss) law runs =
    let law' = steps_keep g (pivot b k c) law runs.0 in
    rests_through g (after_pivot g b k c) h (still_run (after_pivot g b k c) h ss law' runs.1) (pivot_rests g b k c law runs.0) (runs_rest (after_pivot g b k c) h ss law' runs.1)
