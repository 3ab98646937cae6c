-- Next steps that fit keep a grid sound.
use Rattle.std.proofs.Common.{◌≡◌, ◌≢◌, ℕ, ℤ, zero, suc, ◌+◌, ◌<◌, ◌≤◌, ◌⊎◌, inl, inr, pos, Bool, true, false, cond, eqb, eq-eqb, List, [], ◌∷◌, map, length, get_or, Some, None, unsigned_abs, refl, sym, ap, ◌∙◌, subst, arith}
use Rattle.std.specs.Prelude.{All, ◌&&◌}
use Rattle.std.proofs.lemmas.List.{get_or_default, length-map, get_or-map, get_or_past}
use Rattle.std.proofs.lemmas.List.Elements.{All-nil, All-cons}
use Rattle.fraction128.specs.declared.ratio.Ratio.{Ratio}
use Rattle.fraction128.specs.Whole.{InRange}
use Rattle.fraction128.specs.Number.{is_zero}
use Rattle.fraction128.specs.Ratio.{IsFraction}
use Rattle.fraction128.specs.declared.Summand.{Summand}
use Rattle.fraction128.specs.declared.Entry.{Entry}
use Rattle.fraction128.specs.declared.TableRow.{TableRow}
use Rattle.fraction128.specs.declared.Column.{Column}
use Rattle.fraction128.specs.declared.Grid.{Grid}
use Rattle.simplex_steps.specs.Law.{AreFrom, IsLawful, AreIdentities, IsAtBound, KeepsResting, IsNonzeroEntry, IsFreeMember, row_at, no_row}
use Rattle.simplex_steps.proofs.NextStep.{col, step_facts, MoveFacts, PivotFacts}
use Rattle.simplex_steps.proofs.Pivots.{row_is, length_after}
use Rattle.simplex_steps.proofs.Lines.{lines_are_rows}
use Rattle.simplex_steps.proofs.Moments.{Good, turning, good_after, length_with, col_with}
use Rattle.simplex_steps.proofs.Keeping.{good_of, steps_keep}
use Rattle.simplex_steps.proofs.StepFractions.{moved_fraction, entry_fraction, pivoted_fraction}
use Rattle.simplex_steps.proofs.Resting.{runs_rest}
use Rattle.simplex_steps.proofs.Independent.{moves_keep_free, pivots_keep_free}
use Rattle.fraction128.specs.declared.Side.TheVariants.{Lower, Upper}
use Rattle.fraction128.specs.Grid.{move, pivot, next_step, move_fits, moved_value, after_move, pivot_fits, pivot_values_fit, pivoted_entry, pivoted_rows, pivoted_value, after_pivot, with_values, MeetsRows, is_some, row_of, entries_of, is_basic, column_at, value_at, entries_from, Step, take, missed, step_fits, after}
use Rattle.fraction128.specs.Lines.{Bounding, HasSum, IsBoundedBy, IsResting, AscendFrom, IsRow, AreRows, AreIndependent, IsSoundGrid, member_of}
use Rattle.std.proofs.lemmas.Bool.{cases_lt}
use Rattle.simplex_steps.specs.State.{column_in, no_column, IsRanged, AreRanged}
use Rattle.simplex_steps.proofs.Next.{missed_ranged}

-- ---- listed entries

not_none : (x : Ratio) → is_zero x ≡ false → x.numerator ≢ pos 0
not_none x e z = let w : true ≡ false = sym (eq-eqb (unsigned_abs x.numerator) 0 (ap unsigned_abs z)) ∙ e in absurd (cc)

-- of the listed coefficients, each is a fraction other than 0
abbrev IsSomeFraction : Entry → Type 0
IsSomeFraction e = IsFraction e.coefficient × (is_zero e.coefficient ≡ false)

pub listed_fractions : (i n : ℕ) (f : ℕ → Ratio) → ((j : ℕ) → i ≤ j → j < i + n → IsFraction (f j)) → All IsSomeFraction (entries_from i n f)
listed_fractions i zero f h = All-nil IsSomeFraction
listed_fractions i (suc n) f h = by (is_zero (f i)) refl (listed_fractions (i + 1) n f (λ j l lt. h j (omega (arith, l)) (omega (arith, lt))))
  where
    by : (z : Bool) → is_zero (f i) ≡ z → All IsSomeFraction (entries_from (i + 1) n f) → All IsSomeFraction (cond z (entries_from (i + 1) n f) (record { variable = i; coefficient = f i } ∷ entries_from (i + 1) n f))
    by true e rest = rest
    by false e rest = All-cons IsSomeFraction (record { variable = i; coefficient = f i }) (entries_from (i + 1) n f) (h i (omega arith) (omega arith), e) rest

pub ascending_listed : (i n : ℕ) (es : List Entry) → AreFrom i n es → AscendFrom i (map (λ (e : Entry). e.variable) es)
ascending_listed i n [] h = tt
ascending_listed i n (e ∷ es) h = (h.0, ascending_listed (e.variable + 1) n es h.2)

-- ---- sound grids, with other values

module _ (sums : List (List Summand)) (B : Bounding) (g : Grid) (law : IsLawful g) (sound : IsSoundGrid sums B g) where
  inside : (f : ℕ → Ratio) (i : ℕ) → i < length (with_values f 0 g.columns) → i < length g.columns
  inside f i lt = subst (λ n. i < n) (length_with f 0 g.columns) lt

  abbrev changed : (ℕ → Ratio) → List TableRow → Grid
  changed f rows = record { columns = with_values f 0 g.columns; rows = rows; pending = g.pending }

  column_is : (f : ℕ → Ratio) (i : ℕ) → i < length g.columns
      → col (with_values f 0 g.columns) i ≡ record { sum = (col g.columns i).sum; lower = (col g.columns i).lower; upper = (col g.columns i).upper; value = f i }
  column_is f i lt = col_with f 0 g.columns i i (omega arith) lt

  columns_still : (f : ℕ → Ratio) (rows : List TableRow) (i : ℕ) → i < length (changed f rows).columns → HasSum sums i (column_at (changed f rows) i)
  columns_still f rows i lt = let h = sound.columns i (inside f i lt) in (h.0, ap (λ (c : Column). c.sum) (column_is f i (inside f i lt)) ∙ h.1)

  fractions_still : (f : ℕ → Ratio) (rows : List TableRow) → ((i : ℕ) → i < length g.columns → IsFraction (f i)) → (i : ℕ) → i < length (changed f rows).columns → IsFraction (value_at (changed f rows) i)
  fractions_still f rows h i lt = subst (λ (c : Column). IsFraction c.value) (sym (column_is f i (inside f i lt))) (h i (inside f i lt))

  bounded_still : (f : ℕ → Ratio) (rows : List TableRow) (i : ℕ) → i < length (changed f rows).columns → IsBoundedBy B (column_at (changed f rows) i)
  bounded_still f rows i lt =
      let h = sound.bounded i (inside f i lt) in subst (IsBoundedBy B) (sym (column_is f i (inside f i lt))) (record { lower = h.lower; upper = h.upper })

  resting_still : (f : ℕ → Ratio) (rows : List TableRow) → KeepsResting g (changed f rows) → (i : ℕ) → i < length (changed f rows).columns → is_basic rows i ≡ false → IsResting B (column_at (changed f rows) i)
  resting_still f rows keeps i lt free = by (keeps i lt free)
    where
      by : IsAtBound (column_at (changed f rows) i) ⊎ ((is_basic g.rows i ≡ false) × (value_at (changed f rows) i ≡ value_at g i)) → IsResting B (column_at (changed f rows) i)
      by (inl (k, e, inl q)) = inr (Lower, k, e, (bounded_still f rows i lt).lower k q)
      by (inl (k, e, inr q)) = inr (Upper, k, e, (bounded_still f rows i lt).upper k q)
      by (inr (was, same)) = elim (sound.resting i (inside f i lt) was) [
        | inl e ↦ inl (same ∙ e)
        | inr (side, k, e, b) ↦ inr (side, k, same ∙ e, subst (λ ps. B ps side k) (sym (ap (λ (c : Column). c.sum) (column_is f i (inside f i lt)))) b)
      ]

  sound_with : (f : ℕ → Ratio) (rows : List TableRow) → AreRows (changed f rows) → AreIdentities (changed f rows) × AreIndependent (changed f rows) → ((i : ℕ) → i < length g.columns → IsFraction (f i))
      → MeetsRows rows (value_at (changed f rows)) → KeepsResting g (changed f rows) → IsSoundGrid sums B (changed f rows)
  sound_with f rows are free fractions meets keeps = record {
    columns = columns_still f rows;
    rows = are;
    identities = free.0;
    independent = free.1;
    fractions = fractions_still f rows fractions;
    meets = meets;
    bounded = bounded_still f rows;
    resting = resting_still f rows keeps;
  }

  -- ---- a move

  module _ (i : ℕ) (k : ℤ) (next : next_step g ≡ Some (move i k)) (fits : move_fits g i k ≡ true) (in_range : InRange k) where
    moved_rows : AreRows (changed (moved_value g i k) g.rows)
    moved_rows = record {
      each = λ m d lt. let r = sound.rows.each m d lt in record {
        known = still r.known;
        ascending = r.ascending;
        entries = λ n e ln. let w = r.entries n e ln in record { fraction = w.fraction; nonzero = w.nonzero; known = still w.known; free = w.free };
      };
      apart = sound.rows.apart;
    }
      where
        still : {j : ℕ} → j < length g.columns → j < length (with_values (moved_value g i k) 0 g.columns)
        still {j} lt = subst (λ n. j < n) (sym (length_with (moved_value g i k) 0 g.columns)) lt

    pub sound_moved : IsSoundGrid sums B (after_move g i k)
    sound_moved =
        sound_with (moved_value g i k) g.rows moved_rows (moves_keep_free g i k sound.identities sound.independent) (moved_fraction g law sound.rows sound.fractions i k next fits in_range) (steps_keep g (move i k) law next).meets
        (runs_rest g (after_move g i k) (move i k ∷ []) law (next, refl))

  -- ---- a pivot

  module _ (b : ℕ) (k : ℤ) (c : ℕ) (next : next_step g ≡ Some (pivot b k c)) (fits : (pivot_fits (length g.columns) g.rows b c && pivot_values_fit g b k c) ≡ true) (in_range : InRange k) where
    later : Good (length g.columns) (after_pivot g b k c)
    later = good_after (length g.columns) g b k c (good_of g law) (turning (length g.columns) g b k c (good_of g law) (step_facts g (pivot b k c) law.pending law.uncrossed next))

    abbrev rows_then : List TableRow
    rows_then = pivoted_rows (length g.columns) g.rows b c

    as_many : (m : ℕ) → m < length rows_then → m < length g.rows
    as_many m lt = subst (λ q. m < q) (length_after (length g.columns) g.rows b c) lt

    row_then : (m : ℕ) → m < length g.rows → row_at rows_then m ≡ record { basic = cond (eqb (row_at g.rows m).basic b) c (row_at g.rows m).basic; entries = entries_from 0 (length g.columns) (pivoted_entry g.rows b c (row_at g.rows m)) }
    row_then m lt =
        get_or-map (λ (r : TableRow). record { basic = cond (eqb r.basic b) c r.basic; entries = entries_from 0 (length g.columns) (pivoted_entry g.rows b c r) }) g.rows m no_row no_row lt

    listed : (m : ℕ) → m < length rows_then → All IsSomeFraction (row_at rows_then m).entries
    listed m lt =
        subst (λ (r : TableRow). All IsSomeFraction r.entries) (sym (row_then m (as_many m lt)))
        (listed_fractions 0 (length g.columns) (pivoted_entry g.rows b c (row_at g.rows m)) (λ j l lj. entry_fraction g law sound.rows sound.fractions b k c next fits in_range m (as_many m lt) j (omega (arith, lj))))

    free_after : AreIdentities (after_pivot g b k c) × AreIndependent (after_pivot g b k c)
    free_after = pivots_keep_free g b k c law next sound.identities sound.independent

    law_after : IsLawful (after_pivot g b k c)
    law_after = steps_keep g (pivot b k c) law next

    -- what isn't 0 is of variables that aren't basic
    members : (m : ℕ) → m < length rows_then → All (λ (e : Entry). IsFreeMember (after_pivot g b k c) (member_of (after_pivot g b k c) e)) (row_at rows_then m).entries
    members m lt q d lq =
        subst (IsFreeMember (after_pivot g b k c)) (get_or-map (member_of (after_pivot g b k c)) (row_at rows_then m).entries q d (member_of (after_pivot g b k c) d) lq)
        (of_row q (member_of (after_pivot g b k c) d) (let e = length-map (row_at rows_then m).entries (member_of (after_pivot g b k c)) in omega (arith, e, lq)))
      where
        found : row_of rows_then (row_at rows_then m).basic ≡ Some (row_at rows_then m)
        found = row_is (length g.columns) rows_then m later.shape lt

        of_row : All (IsFreeMember (after_pivot g b k c)) (map (member_of (after_pivot g b k c)) (row_at rows_then m).entries)
        of_row =
            subst (λ o. All (IsFreeMember (after_pivot g b k c)) (map (member_of (after_pivot g b k c)) (entries_of o))) found
            (lines_are_rows (after_pivot g b k c) (row_at rows_then m).basic None law_after (ap is_some found) free_after.0
            (subst (λ o. All IsNonzeroEntry (entries_of o)) (sym found) (λ q_ d_ l_. (listed m lt q_ d_ l_).1))).1

    pivoted_are_rows : AreRows (after_pivot g b k c)
    pivoted_are_rows = record {
      each = λ m d lt. subst (IsRow (after_pivot g b k c)) (get_or_default rows_then m no_row d lt) (at m lt);
      apart = λ i j d lt lj e.
          let same : i ≡ j =
          later.shape.distinct i j (omega (arith, lt, lj)) lj
          (ap (λ (r : TableRow). r.basic) (get_or_default rows_then i no_row d (omega (arith, lt, lj))) ∙ e ∙ ap (λ (r : TableRow). r.basic) (sym (get_or_default rows_then j no_row d lj))) in
          absurd (omega (arith, lt, same));
    }
      where
        at : (m : ℕ) → m < length rows_then → IsRow (after_pivot g b k c) (row_at rows_then m)
        at m lt = record {
          known = subst (λ n. (row_at rows_then m).basic < n) (sym later.count) (later.shape.basics m lt);
          ascending = ascending_listed 0 (length g.columns) (row_at rows_then m).entries (later.shape.entries m lt);
          entries = λ q d lq. let w = listed m lt q d lq in let f = members m lt q d lq in record { fraction = w.0; nonzero = not_none (get_or (row_at rows_then m).entries q d).coefficient w.1; known = f.known; free = f.free };
        }

    pub sound_pivoted : IsSoundGrid sums B (after_pivot g b k c)
    sound_pivoted =
        sound_with (pivoted_value g b k c) (pivoted_rows (length g.columns) g.rows b c) pivoted_are_rows free_after (pivoted_fraction g law sound.rows sound.fractions b k c next fits in_range) law_after.meets
        (runs_rest g (after_pivot g b k c) (pivot b k c ∷ []) law (next, refl))

-- ---- bounds in the range

ranged_with : (f : ℕ → Ratio) (cs : List Column) → AreRanged cs → AreRanged (with_values f 0 cs)
ranged_with f cs h i = by_order (cases_lt i (length cs))
  where
    by_order : (i < length cs) ⊎ (length cs ≤ i) → IsRanged (column_in (with_values f 0 cs) i).lower × IsRanged (column_in (with_values f 0 cs) i).upper
    by_order (inl lt) = subst (λ (c : Column). IsRanged c.lower × IsRanged c.upper) (sym (col_with f 0 cs i i (omega arith) lt)) (h i)
    by_order (inr le) =
        subst (λ (c : Column). IsRanged c.lower × IsRanged c.upper) (sym (get_or_past (with_values f 0 cs) i no_column (let n = length_with f 0 cs in omega (arith, le, n)))) (tt, tt)

bound_ranged : (g : Grid) (i : ℕ) (k : ℤ) → AreRanged g.columns → missed (column_in g.columns i) ≡ Some k → InRange k
bound_ranged g i k ranged e = missed_ranged (column_in g.columns i) k (ranged i).0 (ranged i).1 e

-- ---- any step

pub after_ranged : (g : Grid) (s : Step) → IsLawful g → AreRanged g.columns → next_step g ≡ Some s → AreRanged (after g s).columns
after_ranged g (take p) law ranged next = absurd (step_facts g (take p) law.pending law.uncrossed next)
after_ranged g (move i k) law ranged next = ranged_with (moved_value g i k) g.columns ranged
after_ranged g (pivot b k c) law ranged next = ranged_with (pivoted_value g b k c) g.columns ranged

pub steps_stay_sound : (sums : List (List Summand)) (B : Bounding) (g : Grid) (s : Step) → IsLawful g → AreRanged g.columns → IsSoundGrid sums B g → next_step g ≡ Some s → step_fits g s ≡ true
    → IsSoundGrid sums B (after g s)
steps_stay_sound sums B g (take p) law ranged sound next fits = absurd (step_facts g (take p) law.pending law.uncrossed next)
steps_stay_sound sums B g (move i k) law ranged sound next fits =
    let f : MoveFacts g i k = step_facts g (move i k) law.pending law.uncrossed next in
    sound_moved sums B g law sound i k next fits (bound_ranged g i k ranged f.outside)
steps_stay_sound sums B g (pivot b k c) law ranged sound next fits =
    let f : PivotFacts g b k c = step_facts g (pivot b k c) law.pending law.uncrossed next in
    sound_pivoted sums B g law sound b k c next fits (bound_ranged g b k ranged f.outside)
