-- Sound rows and columns are lawful grids, and steps keep them so.
use Rattle.std.proofs.Common.{◌≡◌, ℕ, ℤ, ◌+◌, ◌<◌, ◌≤◌, ◌⊎◌, inl, inr, ◌↔◌, sym, ap, ap₂, ◌∙◌, subst, refl, arith, List, [], ◌∷◌, ◌++◌, length, Bool, true, false, Some, None, ◌&&◌, Result, Ok, Err, OnOk, OnErr, IfErr, IsErrAnd}
use Rattle.fraction128.specs.declared.ratio.Ratio.{Ratio}
use Rattle.fraction128.specs.Number.{is_zero}
use Rattle.fraction128.specs.Ratio.{IsFraction}
use Rattle.fraction128.specs.Whole.{InRange}
use Rattle.fraction128.specs.Listed.{product_of, product_steps, reciprocal_of, sum_steps}
use Rattle.std.proofs.lemmas.Bool.{cases_lt}
use Rattle.std.proofs.lemmas.List.{get_or_past}
use Rattle.fraction128.specs.declared.Entry.{Entry}
use Rattle.fraction128.specs.declared.Column.{Column}
use Rattle.fraction128.specs.declared.Grid.{Grid}
use Rattle.fraction128.specs.Grid.{Step, take, move, pivot, is_basic, missed, next_step, step_fits, pivot_fits, pivoted_rows, after, after_move, after_pivot, moved_value, pivoted_value, with_values, MeetsRows, fit, every_row, distance, distance_fits}
use Rattle.simplex_steps.specs.Law.{ArePositive, AreFrom, IsGrid, IsLawful, Runs, RunsFit, pivots}
use Rattle.simplex_steps.proofs.Keeping.{steps_keep, moves_settle, pivots_settle}
use Rattle.tableau.specs.Table.{Table, IsTable, row_at}
use Rattle.tableau.proofs.Coefficients.{Below}
use Rattle.tableau.proofs.PivotedRows.{below_all}
use Rattle.tableau.proofs.Shape.{From, from_zero, coefficient_free, places_free, nonzero_positive}
use Rattle.fraction128.proofs.RowValue as RowValue
use Rattle.tableau.proofs.Absent.{zero_fraction}
use Rattle.tableau.specs.declared.failure.Failure.{Failure}
use Rattle.tableau.specs.declared.failure.Failure.TheVariants.{Range as NoFit, Memory as NoMemory}
use Rattle.tableau.specs.Failing.{IsRange}
use Rattle.simplex_steps.specs.declared.run.Outcome.{Outcome}
use Rattle.simplex_steps.specs.declared.run.Outcome.TheVariants.{Fits as AllFit, Conflict as Clash, Range, UnitsSpent, Memory}
use Rattle.simplex_steps.specs.declared.find.Turn.{Turn}
use Rattle.simplex_steps.specs.Moved.{CanPivot, shift_fits, moved_to, moved_fits, pivoted_to, pivoted_fits}
use Rattle.simplex_steps.specs.State.{grid_of, column_in, no_column, values, KeepsBounds, IsRanged, AreRanged, IsSolution, IsSound, SettledBelow}
use Rattle.fraction128.specs.Lines.{NextFails}
use Rattle.simplex_steps.specs.Run.{Reaches, NextPivotFits, IsTurn, step_of, IsKept, IsMoved, Settles, IsRun, IsAdvanced, IsFailed, IsUnspent, SpendsRoom, Ends}
use Rattle.simplex_steps.proofs.Columns.{cell_is, keeps_none, keeps_through, moved_exact, moved_keeps, pivoted_exact, pivoted_keeps}
use Rattle.simplex_steps.proofs.Next.{next_move, missed_ranged}
use Rattle.simplex_steps.proofs.Moments.{length_with, col_with}
use Rattle.simplex_steps.proofs.TableRows.{tables_have_rows}
use Rattle.simplex_steps.proofs.StepFractions.{moved_fraction, pivoted_fraction}

-- ---- grids

positive_back : (es : List Entry) → RowValue.ArePositive es → ArePositive es
positive_back [] h = tt
positive_back (e ∷ es) h = (h.0, positive_back es h.1)

from_both : (i n : ℕ) (es : List Entry) → From i es → Below n es → AreFrom i n es
from_both i n [] h b = tt
from_both i n (e ∷ es) h b = (h.0, b.0, from_both (e.variable + 1) n es h.1 b.1)

pub is_grid : (t : Table) (cs : List Column) → IsTable t → IsSolution t cs → IsGrid (grid_of t cs)
is_grid t cs facts s =
    record {
      distinct = facts.distinct;
      basics = λ k lt. subst (λ m. (row_at t.rows k).basic < m) (sym s.count) (facts.basics k lt);
      entries = λ k lt. subst (λ m. AreFrom 0 m (row_at t.rows k).entries) (sym s.count)
          (from_both 0 t.count (row_at t.rows k).entries (from_zero (row_at t.rows k).entries (facts.ascending k lt)) (below_all t.count (row_at t.rows k).entries (λ j le. facts.known j k le lt)));
      positive = λ k lt. positive_back (row_at t.rows k).entries (nonzero_positive (row_at t.rows k).entries (facts.nonzero k lt));
      separate = λ j k lj lk. ap is_zero (coefficient_free (row_at t.rows j).basic (row_at t.rows k).entries (places_free (row_at t.rows j).basic (row_at t.rows k).entries (facts.separate j k lj lk)));
      values = λ i. (s.fractions i).positive;
    }

pub lawful : (t : Table) (cs : List Column) → IsTable t → IsSound t cs → IsLawful (grid_of t cs)
lawful t cs facts s = record { grid = is_grid t cs facts s.solution; pending = refl; meets = s.solution.meets; uncrossed = s.uncrossed }

ranged_still : (cs ds : List Column) → KeepsBounds cs ds → AreRanged cs → AreRanged ds
ranged_still cs ds keeps h i = (subst IsRanged (sym (keeps.each i).lower) (h i).0, subst IsRanged (sym (keeps.each i).upper) (h i).1)

pub sound_back : (u : Table) (ds cs : List Column) → IsLawful (grid_of u ds) → length ds ≡ u.count → ((i : ℕ) → i < length ds → IsFraction (values ds i)) → KeepsBounds cs ds → AreRanged cs → IsSound u ds
sound_back u ds cs l count fractions keeps ranged =
    record {
      solution = record { count = count; fractions = λ i. by_order i (cases_lt i (length ds)); meets = l.meets };
      ranged = ranged_still cs ds keeps ranged;
      uncrossed = l.uncrossed;
    }
  where
    by_order : (i : ℕ) → (i < length ds) ⊎ (length ds ≤ i) → IsFraction (values ds i)
    by_order i (inl lt) = fractions i lt
    by_order i (inr le) = subst (λ (c : Column). IsFraction c.value) (sym (get_or_past ds i no_column le)) zero_fraction

-- the values after a step, listed by a function
listed_fraction : (f : ℕ → Ratio) (cs ds : List Column) → ds ≡ with_values f 0 cs → ((j : ℕ) → j < length cs → IsFraction (f j)) → (j : ℕ) → j < length ds → IsFraction (values ds j)
listed_fraction f cs ds is h j lt =
    let inside : j < length cs = subst (λ n. j < n) (length_with f 0 cs) (subst (λ (xs : List Column). j < length xs) is lt) in
    subst (λ (xs : List Column). IsFraction (values xs j)) (sym is) (subst (λ (c : Column). IsFraction c.value) (sym (col_with f 0 cs j j (omega arith) inside)) (h j inside))

-- ---- runs

pub reaches_none : (g : Grid) → Reaches 0 g g
reaches_none g = record { steps = []; runs = refl; fits = tt; count = refl }

pub runs_append : (g h k : Grid) (ss ts : List Step) → Runs g ss h → Runs h ts k → Runs g (ss ++ ts) k
runs_append g h k [] ts p q = subst (λ x. Runs x ts k) (sym p) q
runs_append g h k (s ∷ ss) ts p q = (p.0, runs_append (after g s) h k ss ts p.1 q)

pub fits_append : (g h : Grid) (ss ts : List Step) → Runs g ss h → RunsFit g ss → RunsFit h ts → RunsFit g (ss ++ ts)
fits_append g h [] ts p f q = subst (λ x. RunsFit x ts) (sym p) q
fits_append g h (s ∷ ss) ts p f q = (f.0, fits_append (after g s) h ss ts p.1 f.1 q)

pub pivots_append : (ss ts : List Step) → pivots (ss ++ ts) ≡ pivots ss + pivots ts
pivots_append [] ts = omega arith
pivots_append (take p ∷ ss) ts = pivots_append ss ts
pivots_append (move i k ∷ ss) ts = pivots_append ss ts
pivots_append (pivot b k c ∷ ss) ts = let ih = pivots_append ss ts in omega (arith, ih)

pub reaches_through : (m n : ℕ) (g h k : Grid) → Reaches m g h → Reaches n h k → Reaches (m + n) g k
reaches_through m n g h k p q =
    record {
      steps = p.steps ++ q.steps;
      runs = runs_append g h k p.steps q.steps p.runs q.runs;
      fits = fits_append g h p.steps q.steps p.runs p.fits q.fits;
      count = pivots_append p.steps q.steps ∙ ap₂ ◌+◌ p.count q.count;
    }

-- ---- a move

pub move_made : (t : Table) (cs ds : List Column) (i : ℕ) (k : ℤ) → IsTable t → IsSound t cs → i < t.count → is_basic t.rows i ≡ false → missed (column_in cs i) ≡ Some k → SettledBelow t cs i
    → ds ≡ moved_to t.rows cs i k → moved_fits t.rows cs i k ≡ true → IsMoved t cs ds (i + 1)
move_made t cs ds i k facts s lt free out settled e fit_all =
    let inside : i < length cs = let c = s.solution.count in omega (arith, lt, c) in
    let next = next_move t cs i k s.uncrossed settled inside free out in
    let law = lawful t cs facts s in
    let is : ds ≡ (after_move (grid_of t cs) i k).columns = e ∙ moved_exact t cs i k facts s.solution lt in
    let keeps : KeepsBounds cs ds = subst (KeepsBounds cs) (sym e) (moved_keeps t.rows cs i k) in
    let after_is : after_move (grid_of t cs) i k ≡ grid_of t ds = ap (grid_of t) (sym is) in
    let number : InRange k = missed_ranged (column_in cs i) k (s.ranged i).0 (s.ranged i).1 out in
    let fractions : (j : ℕ) → j < length cs → IsFraction (moved_value (grid_of t cs) i k j) =
    moved_fraction (grid_of t cs) law (tables_have_rows t cs facts s.solution.count) (λ j lj. s.solution.fractions j) i k next fit_all number in
    record {
      kept = record {
        reaches = record { steps = move i k ∷ []; runs = (next, after_is); fits = (fit_all, tt); count = refl };
        sound = sound_back t ds cs (subst IsLawful after_is (steps_keep (grid_of t cs) (move i k) law next)) (keeps.count ∙ s.solution.count)
            (listed_fraction (moved_value (grid_of t cs) i k) cs ds is fractions) keeps s.ranged;
        bounds = keeps;
      };
      settled = λ j lj fj. by_known next law after_is j lj fj (cases_lt j (length ds));
    }
  where
    by_known : next_step (grid_of t cs) ≡ Some (move i k) → IsLawful (grid_of t cs) → after_move (grid_of t cs) i k ≡ grid_of t ds
        → (j : ℕ) → j < i + 1 → is_basic t.rows j ≡ false → (j < length ds) ⊎ (length ds ≤ j) → missed (column_in ds j) ≡ None
    by_known next law after_is j lj fj (inl l) =
        subst (λ (g : Grid). j < length g.columns → is_basic g.rows j ≡ false → missed (column_in g.columns j) ≡ None) after_is
        (λ m f. moves_settle (grid_of t cs) i k law next (λ q lq mq. settled q lq) j lj m f) l fj
    by_known next law after_is j lj fj (inr le) = ap missed (get_or_past ds j no_column le)

-- so where the call's number has the same bits
pub move_done : {T E : Type 0} (r : Result T E) (t : Table) (cs ds : List Column) (i : ℕ) (k n : ℤ) → IsTable t → IsSound t cs → i < t.count → is_basic t.rows i ≡ false → missed (column_in cs i) ≡ Some k
    → SettledBelow t cs i → n ≡ k → OnOk r (ds ≡ moved_to t.rows cs i n) → OnOk r (moved_fits t.rows cs i n ≡ true) → OnOk r (IsMoved t cs ds (i + 1))
move_done (Ok x) t cs ds i k n facts s lt free out settled same e f =
    move_made t cs ds i k facts s lt free out settled (subst (λ m. ds ≡ moved_to t.rows cs i m) same e) (subst (λ m. moved_fits t.rows cs i m ≡ true) same f)
move_done (Err x) t cs ds i k n facts s lt free out settled same e f = e

pub move_fails : (t : Table) (cs : List Column) (i : ℕ) (k : ℤ) → IsSound t cs → i < t.count → is_basic t.rows i ≡ false → missed (column_in cs i) ≡ Some k → SettledBelow t cs i
    → moved_fits t.rows cs i k ≡ false → NextFails (grid_of t cs)
move_fails t cs i k s lt free out settled f =
    record { step = move i k; next = next_move t cs i k s.uncrossed settled (let c = s.solution.count in omega (arith, lt, c)) free out; fails = f }

-- ---- a pivot

same_fits : (t : Table) (cs : List Column) (place : ℕ) (k : ℤ) (c : ℕ) → IsTable t → IsSolution t cs → place < length t.rows
    → step_fits (grid_of t cs) (pivot (row_at t.rows place).basic k c) ≡ (pivot_fits t.count t.rows (row_at t.rows place).basic c && pivoted_fits t.rows cs place k c)
same_fits t cs place k c facts s lt =
    ap₂ ◌&&◌ (ap (λ n. pivot_fits n t.rows (row_at t.rows place).basic c) s.count)
    (ap (λ a. values_fit_with a) (cell_is t place c facts lt))
  where
    b : ℕ
    b = (row_at t.rows place).basic

    values_fit_with : Ratio → Bool
    values_fit_with a =
        distance_fits k (values cs b)
        && fit (product_steps (distance k (values cs b)) (reciprocal_of a))
        && fit (sum_steps (values cs c) (product_of (distance k (values cs b)) (reciprocal_of a)))
        && every_row t.rows (shift_fits cs c (product_of (distance k (values cs b)) (reciprocal_of a)))

-- the next pivot can be tried
pub can_pivot : (t : Table) (cs : List Column) (turn : Turn) → IsSolution t cs → IsTurn t cs turn → CanPivot t cs turn.place turn.number turn.entering
can_pivot t cs turn s h = record { count = s.count; fractions = s.fractions; in_range = h.in_range; in_rows = h.in_rows; known = h.known; entry = h.entry }

pub pivot_made : (t u : Table) (cs ds : List Column) (turn : Turn) → IsTable t → IsSound t cs → IsTurn t cs turn
    → ds ≡ pivoted_to t.rows cs turn.place turn.number turn.entering → u.rows ≡ pivoted_rows t.count t.rows (row_at t.rows turn.place).basic turn.entering → u.count ≡ t.count
    → ((v : ℕ → Ratio) → ((i : ℕ) → 0 < (v i).denominator) → (MeetsRows u.rows v ↔ MeetsRows t.rows v))
    → (pivot_fits t.count t.rows (row_at t.rows turn.place).basic turn.entering && pivoted_fits t.rows cs turn.place turn.number turn.entering) ≡ true → IsAdvanced t cs u ds
pivot_made t u cs ds turn facts s h e rows count keeps_rows fit_all =
    let b = (row_at t.rows turn.place).basic in
    let k = turn.number in
    let c = turn.entering in
    let law = lawful t cs facts s in
    let is : ds ≡ (after_pivot (grid_of t cs) b k c).columns = e ∙ pivoted_exact t cs turn.place k c facts s.solution h.in_rows h.known h.entry in
    let keeps : KeepsBounds cs ds = subst (KeepsBounds cs) (sym e) (pivoted_keeps t.rows cs turn.place k c) in
    let rows_are : u.rows ≡ (after_pivot (grid_of t cs) b k c).rows = rows ∙ ap (λ n. pivoted_rows n t.rows b c) (sym s.solution.count) in
    let after_is : after_pivot (grid_of t cs) b k c ≡ grid_of u ds =
    ap₂ (λ xs rs. let g : Grid = record { columns = xs; rows = rs; pending = None } in g) (sym is) (sym rows_are) in
    let law' : IsLawful (grid_of u ds) = subst IsLawful after_is (steps_keep (grid_of t cs) (pivot b k c) law h.next) in
    let fits_step : step_fits (grid_of t cs) (pivot b k c) ≡ true = same_fits t cs turn.place k c facts s.solution h.in_rows ∙ fit_all in
    let fractions : (j : ℕ) → j < length cs → IsFraction (pivoted_value (grid_of t cs) b k c j) =
    pivoted_fraction (grid_of t cs) law (tables_have_rows t cs facts s.solution.count) (λ j lj. s.solution.fractions j) b k c h.next fits_step h.in_range in
    let sound : IsSound u ds = sound_back u ds cs law' (keeps.count ∙ s.solution.count ∙ sym count) (listed_fraction (pivoted_value (grid_of t cs) b k c) cs ds is fractions) keeps s.ranged in
    record {
      run = record {
        reaches = record { steps = pivot b k c ∷ []; runs = (h.next, after_is); fits = (fits_step, tt); count = refl };
        keeps = keeps_rows;
        solution = sound.solution;
        bounds = keeps;
      };
      sound = sound;
      settled = λ j lj fj.
          subst (λ (g : Grid). j < length g.columns → is_basic g.rows j ≡ false → missed (column_in g.columns j) ≡ None) after_is
          (λ l f. pivots_settle (grid_of t cs) b k c law h.next j (let q = keeps.count in omega (arith, lj, q)) l f) lj fj;
    }

pub pivot_done : {T E : Type 0} (r : Result T E) (t u : Table) (cs ds : List Column) (turn : Turn) (n : ℤ) → IsTable t → IsSound t cs → IsTurn t cs turn → n ≡ turn.number
    → OnOk r (ds ≡ pivoted_to t.rows cs turn.place n turn.entering) → OnOk r (u.rows ≡ pivoted_rows t.count t.rows (row_at t.rows turn.place).basic turn.entering) → u.count ≡ t.count
    → OnOk r ((v : ℕ → Ratio) → ((i : ℕ) → 0 < (v i).denominator) → (MeetsRows u.rows v ↔ MeetsRows t.rows v))
    → OnOk r ((pivot_fits t.count t.rows (row_at t.rows turn.place).basic turn.entering && pivoted_fits t.rows cs turn.place n turn.entering) ≡ true) → OnOk r (IsAdvanced t cs u ds)
pivot_done (Ok x) t u cs ds turn n facts s h same e rows count keeps f =
    pivot_made t u cs ds turn facts s h (subst (λ m. ds ≡ pivoted_to t.rows cs turn.place m turn.entering) same e) rows count keeps
    (subst (λ m. (pivot_fits t.count t.rows (row_at t.rows turn.place).basic turn.entering && pivoted_fits t.rows cs turn.place m turn.entering) ≡ true) same f)
pivot_done (Err x) t u cs ds turn n facts s h same e rows count keeps f = e

pub pivot_fails : (t : Table) (cs : List Column) (turn : Turn) → IsTable t → IsSolution t cs → IsTurn t cs turn
    → (pivot_fits t.count t.rows (row_at t.rows turn.place).basic turn.entering && pivoted_fits t.rows cs turn.place turn.number turn.entering) ≡ false → NextFails (grid_of t cs)
pivot_fails t cs turn facts s h f =
    record { step = step_of t turn; next = h.next; fails = same_fits t cs turn.place turn.number turn.entering facts s h.in_rows ∙ f }

pub pivot_would_fit : (t : Table) (cs : List Column) (turn : Turn) → IsTable t → IsSolution t cs → IsTurn t cs turn
    → (pivot_fits t.count t.rows (row_at t.rows turn.place).basic turn.entering && pivoted_fits t.rows cs turn.place turn.number turn.entering) ≡ true → NextPivotFits (grid_of t cs)
pivot_would_fit t cs turn facts s h f =
    record {
      leaves = (row_at t.rows turn.place).basic;
      number = turn.number;
      enters = turn.entering;
      next = h.next;
      fits = same_fits t cs turn.place turn.number turn.entering facts s h.in_rows ∙ f;
    }

-- ---- runs of rows and columns

pub run_none : (t : Table) (cs : List Column) → IsSolution t cs → IsRun t cs t cs 0
run_none t cs s = record { reaches = reaches_none (grid_of t cs); keeps = λ v p. (λ m. m, λ m. m); solution = s; bounds = keeps_none cs }

pub run_through : (t : Table) (cs : List Column) (u : Table) (ds : List Column) (w : Table) (es : List Column) (m n : ℕ) → IsRun t cs u ds m → IsRun u ds w es n → IsRun t cs w es (m + n)
run_through t cs u ds w es m n p q =
    record {
      reaches = reaches_through m n (grid_of t cs) (grid_of u ds) (grid_of w es) p.reaches q.reaches;
      keeps = λ v h. (λ z. (p.keeps v h).0 ((q.keeps v h).0 z), λ z. (q.keeps v h).1 ((p.keeps v h).1 z));
      solution = q.solution;
      bounds = keeps_through cs ds es p.bounds q.bounds;
    }

pub run_after : (t : Table) (cs : List Column) (u : Table) (ds : List Column) (w : Table) (es : List Column) (n : ℕ) → IsRun t cs u ds 0 → IsRun u ds w es n → IsRun t cs w es n
run_after t cs u ds w es n p q = subst (IsRun t cs w es) (omega arith) (run_through t cs u ds w es 0 n p q)

-- an end that changes nothing
pub run_same : (t : Table) (cs : List Column) (u w : Table) (ds es : List Column) (n : ℕ) → IsRun t cs u ds n → w ≡ u → es ≡ ds → IsRun t cs w es n
run_same t cs u w ds es n h e f = subst (λ z. IsRun t cs z es n) (sym e) (subst (λ z. IsRun t cs u z n) (sym f) h)

-- ---- ends

pub failed_ends : (t : Table) (cs : List Column) (e : Failure) (o : Outcome) → IsFailed e o → (IsRange e → NextFails (grid_of t cs)) → Ends t cs o
failed_ends t cs (NoFit r) o is h = subst (Ends t cs) (sym is) (h tt)
failed_ends t cs NoMemory o is h = subst (Ends t cs) (sym is) tt

pub failed_unspent : (e : Failure) (o : Outcome) → IsFailed e o → IsUnspent o
failed_unspent (NoFit r) o is = subst IsUnspent (sym is) tt
failed_unspent NoMemory o is = subst IsUnspent (sym is) tt

pub unspent_room : (room made : ℕ) (o : Outcome) → IsUnspent o → SpendsRoom room made o
unspent_room room made UnitsSpent h = absurd h
unspent_room room made AllFit h = tt
unspent_room room made (Clash bounds) h = tt
unspent_room room made (Range number) h = tt
unspent_room room made Memory h = tt

pub full_room : (room : ℕ) (o : Outcome) → SpendsRoom room room o
full_room room UnitsSpent = refl
full_room room AllFit = tt
full_room room (Clash bounds) = tt
full_room room (Range number) = tt
full_room room Memory = tt

-- ---- moves, one variable after another

pub err_both : {T E Q : Type 0} {P R : E → Type 0} (r : Result T E) → IfErr r P → OnErr r Q → ((e : E) → P e → Q → R e) → IfErr r R
err_both (Ok x) p q f = p
err_both (Err e) p q f = f e p q

pub settled_basic : (t : Table) (cs : List Column) (i : ℕ) → SettledBelow t cs i → is_basic t.rows i ≡ true → SettledBelow t cs (i + 1)
settled_basic t cs i h basic j lt free = by_order (cases_lt j i)
  where
    by_order : (j < i) ⊎ (i ≤ j) → missed (column_in cs j) ≡ None
    by_order (inl l) = h j l free
    by_order (inr le) = absurd (let same : j ≡ i = omega (arith, lt, le) in let z : true ≡ false = sym basic ∙ ap (is_basic t.rows) (sym same) ∙ free in cc)

pub settled_within : (t : Table) (cs : List Column) (i : ℕ) → SettledBelow t cs i → missed (column_in cs i) ≡ None → SettledBelow t cs (i + 1)
settled_within t cs i h within j lt free = by_order (cases_lt j i)
  where
    by_order : (j < i) ⊎ (i ≤ j) → missed (column_in cs j) ≡ None
    by_order (inl l) = h j l free
    by_order (inr le) = let same : j ≡ i = omega (arith, lt, le) in ap (λ n. missed (column_in cs n)) same ∙ within

-- ---- bringing variables within their bounds

pub kept_none : (t : Table) (cs : List Column) → IsSound t cs → IsKept t cs cs
kept_none t cs s = record { reaches = reaches_none (grid_of t cs); sound = s; bounds = keeps_none cs }

pub kept_through : (t : Table) (cs ds es : List Column) → IsKept t cs ds → IsKept t ds es → IsKept t cs es
kept_through t cs ds es h k =
    record { reaches = reaches_through 0 0 (grid_of t cs) (grid_of t ds) (grid_of t es) h.reaches k.reaches; sound = k.sound; bounds = keeps_through cs ds es h.bounds k.bounds }

pub kept_run : (t : Table) (cs ds : List Column) → IsKept t cs ds → IsRun t cs t ds 0
kept_run t cs ds h = record { reaches = h.reaches; keeps = λ v p. (λ m. m, λ m. m); solution = h.sound.solution; bounds = h.bounds }

-- nothing had to move
pub settles_none : {T : Type 0} (t : Table) (cs : List Column) (n : ℕ) (x : T) → IsSound t cs → SettledBelow t cs n → Settles t cs cs n (Ok x)
settles_none t cs n x s settled = record { kept = kept_none t cs s; settled = settled; range = tt }

-- one variable had to
pub settles_moved : {T : Type 0} (t : Table) (cs ds : List Column) (n : ℕ) (r : Result T Failure) → IsSound t cs → OnOk r (IsMoved t cs ds n) → IfErr r (λ e. IsRange e → NextFails (grid_of t cs)) → OnErr r (ds ≡ cs)
    → Settles t cs ds n r
settles_moved t cs ds n (Ok x) s moved range same = record { kept = moved.kept; settled = moved.settled; range = tt }
settles_moved t cs ds n (Err e) s moved range same =
    record { kept = subst (IsKept t cs) (sym same) (kept_none t cs s); settled = tt; range = λ w. subst (λ (es : List Column). NextFails (grid_of t es)) (sym same) (range w) }

-- after others, one failed
pub settles_failed : {T U : Type 0} (t : Table) (cs ds es : List Column) (m n : ℕ) (e : Failure) (q : Result T Failure) (r : Result U Failure) → IsKept t cs ds → q ≡ Err e → Settles t ds es m q → IsErrAnd r (λ f. f ≡ e) → Settles t cs es n r
settles_failed t cs ds es m n e q (Ok x) h was s failed = absurd failed
settles_failed t cs ds es m n e q (Err f) h was s failed =
    record { kept = kept_through t cs ds es h s.kept; settled = tt; range = subst (λ g. IfErr g (λ d. IsRange d → NextFails (grid_of t es))) (was ∙ sym (ap Err failed)) s.range }
