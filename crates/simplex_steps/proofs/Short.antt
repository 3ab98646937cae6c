-- Runs are short.
use Rattle.std.proofs.Common.{◌≡◌, ◌≢◌, ℕ, ℤ, zero, suc, ◌+◌, ◌^◌, ◌<◌, ◌≤◌, ◌⊎◌, inl, inr, sym, ap, ap₂, ◌∙◌, subst, refl, arith, List, [], ◌∷◌, ◌++◌, length, Bool, true, false, cond, eqb, eqb-true, Option, Some, None, ◌||◌}
use Rattle.std.specs.Prelude.{int_lt}
use Rattle.std.proofs.lemmas.Int.{ints}
use Rattle.std.proofs.lemmas.Bool.{cases_lt}
use Rattle.fraction128.specs.declared.ratio.Ratio.{Ratio}
use Rattle.fraction128.specs.Number.{whole, is_less}
use Rattle.fraction128.proofs.RingEquations.{var, sum, product, minus, nothing, unit, solve}
use Rattle.fraction128.proofs.RationalRing.{Rational, number, rational_sum, rational_product, rational_negation, rational_zero, rational_one, rationals}
use Rattle.fraction128.proofs.RationalOrder.{NonPos, nonpos_none, times_one}
use Rattle.fraction128.proofs.ExactSteps.{none_number}
use Rattle.fraction128.specs.declared.Entry.{Entry}
use Rattle.fraction128.specs.declared.Column.{Column}
use Rattle.fraction128.specs.declared.Grid.{Grid}
use Rattle.fraction128.specs.Grid.{Step, take, move, pivot, coefficient, cell, is_basic, value_at, missed, is_crossed, helps, any_crossed, next_step, after_pivot, after_move, pivoted_value, pivoted_rows, MeetsRows}
use Rattle.fraction128.proofs.RowValue as RowValue
use Rattle.simplex_steps.specs.Law.{row_at, no_row, ArePositive, IsGrid, Runs, pivots, RunsAreShort}
use Rattle.simplex_steps.proofs.Counting.{Turn, AreBelow, AreWithout, AreApart, Names, Alternates, few_turns}
use Rattle.simplex_steps.proofs.Spans.{span, span_same, span_sum, span_product, span_nonpos, coefficient_positive, dot_coefficients, differs}
use Rattle.simplex_steps.proofs.Pivots.{Solves, basic_at, basic_or_free, length_after, basic_entered, basic_stays, solves_after, Shape}
use Rattle.simplex_steps.proofs.Bland.{idle_term, coming_term, cant_leave}
use Rattle.simplex_steps.proofs.NextStep.{col, MoveFacts, PivotFacts, step_facts}
use Rattle.simplex_steps.proofs.Moments.{Good, IsFree, numbers, free_is, is_free, cell_is, Turning, free_after, left_after, turning, pivot_column, pivot_value, pivot_stays, pivot_leaves, good_after, good_moved}

-- ---- runs of pivots

abbrev Turns : Grid → List Turn → Grid → Type 0
Turns g [] h = g ≡ h
Turns g (t ∷ ts) h = (next_step g ≡ Some (pivot t.leaves t.number t.enters)) × Turns (after_pivot g t.leaves t.number t.enters) ts h

pub pivot_facts : (n : ℕ) (g : Grid) (b : ℕ) (k : ℤ) (c : ℕ) → Good n g → next_step g ≡ Some (pivot b k c) → PivotFacts g b k c
pivot_facts n g b k c good h = step_facts g (pivot b k c) good.pending good.uncrossed h

good_turn : (n : ℕ) (g : Grid) (b : ℕ) (k : ℤ) (c : ℕ) → Good n g → next_step g ≡ Some (pivot b k c) → Good n (after_pivot g b k c)
good_turn n g b k c good h = good_after n g b k c good (turning n g b k c good (pivot_facts n g b k c good h))

-- the rows after the pivot of the row at the place
rows_are : (n : ℕ) (g : Grid) (b : ℕ) (k : ℤ) (c : ℕ) → Good n g → (t : Turning n g b c) → (after_pivot g b k c).rows ≡ pivoted_rows n g.rows (basic_at g.rows t.place) c
rows_are n g b k c good t = ap₂ (λ m i. pivoted_rows m g.rows i c) good.count (sym t.is_place)

-- a variable that is basic after the pivot entered, or was basic and didn't leave
basic_before : (n : ℕ) (g : Grid) (b : ℕ) (k : ℤ) (c j : ℕ) → Good n g → Turning n g b c → j ≢ b → j ≢ c → IsFree g.rows j → IsFree (after_pivot g b k c).rows j
basic_before n g b k c j good t nb nc free =
    subst (λ m. IsFree (pivoted_rows m g.rows b c) j) (sym good.count) (free_after n g b c j good t nc (λ m lm ne. free m lm))

-- and the other way
pub free_before : (n : ℕ) (g : Grid) (b : ℕ) (k : ℤ) (c j : ℕ) → Good n g → Turning n g b c → j ≢ b → IsFree (after_pivot g b k c).rows j → IsFree g.rows j
free_before n g b k c j good t nb free m lm e = free' m (subst (λ q. m < q) (sym (length_after n g.rows (basic_at g.rows t.place) c)) lm) (basic_stays n g.rows t.place c m lm (λ w. nb (sym e ∙ w ∙ t.is_place)) ∙ e)
  where
    free' : IsFree (pivoted_rows n g.rows (basic_at g.rows t.place) c) j
    free' = subst (λ rows. IsFree rows j) (rows_are n g b k c good t) free

-- the leaving variable is free after the pivot
left_free : (n : ℕ) (g : Grid) (b : ℕ) (k : ℤ) (c : ℕ) → Good n g → Turning n g b c → IsFree (after_pivot g b k c).rows b
left_free n g b k c good t =
    subst (λ m. IsFree (pivoted_rows m g.rows b c) b) (sym good.count) (left_after n g b c good t)

-- the entering variable is basic after it
entered_basic : (n : ℕ) (g : Grid) (b : ℕ) (k : ℤ) (c : ℕ) → Good n g → Turning n g b c → (IsFree (after_pivot g b k c).rows c → ⊥)
entered_basic n g b k c good t free =
    (subst (λ rows. IsFree rows c) (rows_are n g b k c good t) free) t.place (subst (λ q. t.place < q) (sym (length_after n g.rows (basic_at g.rows t.place) c)) t.pivot.in_rows) (basic_entered n g.rows t.place c t.pivot.in_rows)

-- a variable that isn't basic can't leave, and a basic one can't enter
free_stays_out : (n : ℕ) (g : Grid) (b : ℕ) (k : ℤ) (c : ℕ) → Good n g → next_step g ≡ Some (pivot b k c) → IsFree g.rows b → ⊥
free_stays_out n g b k c good h free = let t = turning n g b k c good (pivot_facts n g b k c good h) in free t.place t.pivot.in_rows t.is_place

enters_free : (n : ℕ) (g : Grid) (b : ℕ) (k : ℤ) (c : ℕ) → Good n g → next_step g ≡ Some (pivot b k c) → IsFree g.rows c
enters_free n g b k c good h = (turning n g b k c good (pivot_facts n g b k c good h)).pivot.free

-- ---- what stays between two turns of a variable

skip : (n : ℕ) (xs ts : List Turn) (g h : Grid) → Good n g → Turns g (xs ++ ts) h → (g' : Grid) × Good n g' × Turns g' ts h
skip n [] ts g h good run = (g, good, run)
skip n (x ∷ xs) ts g h good run = skip n xs ts (after_pivot g x.leaves x.number x.enters) h (good_turn n g x.leaves x.number x.enters good run.0) run.1

free_through : (n r : ℕ) (ys ts : List Turn) (g h : Grid) → Good n g → IsFree g.rows r → AreWithout r ys → Turns g (ys ++ ts) h → (g' : Grid) × Good n g' × IsFree g'.rows r × Turns g' ts h
free_through n r [] ts g h good free w run = (g, good, free, run)
free_through n r (y ∷ ys) ts g h good free w run =
    let t = turning n g y.leaves y.number y.enters good (pivot_facts n g y.leaves y.number y.enters good run.0) in
    free_through n r ys ts (after_pivot g y.leaves y.number y.enters) h (good_turn n g y.leaves y.number y.enters good run.0)
    (basic_before n g y.leaves y.number y.enters r good t (λ e. w.0 (sym e)) (λ e. w.1 (sym e)) free) w.2 run.1

basic_through : (n r : ℕ) (ys ts : List Turn) (g h : Grid) → Good n g → (IsFree g.rows r → ⊥) → AreWithout r ys → Turns g (ys ++ ts) h → (g' : Grid) × Good n g' × (IsFree g'.rows r → ⊥) × Turns g' ts h
basic_through n r [] ts g h good basic w run = (g, good, basic, run)
basic_through n r (y ∷ ys) ts g h good basic w run =
    let t = turning n g y.leaves y.number y.enters good (pivot_facts n g y.leaves y.number y.enters good run.0) in
    basic_through n r ys ts (after_pivot g y.leaves y.number y.enters) h (good_turn n g y.leaves y.number y.enters good run.0)
    (λ free. basic (free_before n g y.leaves y.number y.enters r good t (λ e. w.0 (sym e)) free)) w.2 run.1

-- ---- from the turn in which r leaves to that in which it enters

-- g1 is the grid before r left with the number k; g is a later one, before r enters
record Since (n r : ℕ) (k : ℤ) (g1 g : Grid) : Type 0 where
  free : IsFree g.rows r
  stands : value_at g r ≡ whole k
  above : (j : ℕ) → r < j → j < n → IsFree g.rows j → value_at g j ≡ value_at g1 j
  solves : Solves n g.rows (numbers g1)
  lower : (j : ℕ) → j < n → (col g.columns j).lower ≡ (col g1.columns j).lower
  upper : (j : ℕ) → j < n → (col g.columns j).upper ≡ (col g1.columns j).upper

since_more : (n r : ℕ) (k : ℤ) (g1 g : Grid) (b : ℕ) (q : ℤ) (c : ℕ) → Good n g → Turning n g b c → b < r + 1 → c < r + 1 → r < n → b ≢ r → c ≢ r → Since n r k g1 g → Since n r k g1 (after_pivot g b q c)
since_more n r k g1 g b q c good t lb lc lr nb nc s =
    record {
      free = basic_before n g b q c r good t (λ e. nb (sym e)) (λ e. nc (sym e)) s.free;
      stands = pivot_value g b q c r (in_columns r lr) ∙ pivot_stays n g b q c r good.shape (λ e. nb (sym e)) (λ e. nc (sym e)) s.free ∙ s.stands;
      above = λ j rj lj free.
          let jb : j ≢ b = λ e. absurd (omega (arith, rj, lb, e)) in
          let jc : j ≢ c = λ e. absurd (omega (arith, rj, lc, e)) in
          let before = free_before n g b q c j good t jb free in
          pivot_value g b q c j (in_columns j lj) ∙ pivot_stays n g b q c j good.shape jb jc before ∙ s.above j rj lj before;
      solves = subst (λ rows. Solves n rows (numbers g1)) (sym (rows_are n g b q c good t)) (solves_after n g.rows t.place c (numbers g1) good.shape t.pivot s.solves);
      lower = λ j lj. ap (λ (d : Column). d.lower) (pivot_column g b q c j (in_columns j lj)) ∙ s.lower j lj;
      upper = λ j lj. ap (λ (d : Column). d.upper) (pivot_column g b q c j (in_columns j lj)) ∙ s.upper j lj;
    }
  where
    in_columns : (j : ℕ) → j < n → j < length g.columns
    in_columns j lj = subst (λ m. j < m) (sym good.count) lj

since_first : (n : ℕ) (g : Grid) (b : ℕ) (q : ℤ) (c : ℕ) → Good n g → Turning n g b c → c < b + 1 → b < n → Since n b q g (after_pivot g b q c)
since_first n g b q c good t lc lb =
    record {
      free = left_free n g b q c good t;
      stands = pivot_value g b q c b (in_columns b lb) ∙ pivot_leaves g b q c;
      above = λ j rj lj free.
          let jb : j ≢ b = λ e. absurd (omega (arith, rj, e)) in
          let jc : j ≢ c = λ e. absurd (omega (arith, rj, lc, e)) in
          pivot_value g b q c j (in_columns j lj) ∙ pivot_stays n g b q c j good.shape jb jc (free_before n g b q c j good t jb free);
      solves = subst (λ rows. Solves n rows (numbers g)) (sym (rows_are n g b q c good t)) (solves_after n g.rows t.place c (numbers g) good.shape t.pivot good.solves);
      lower = λ j lj. ap (λ (d : Column). d.lower) (pivot_column g b q c j (in_columns j lj));
      upper = λ j lj. ap (λ (d : Column). d.upper) (pivot_column g b q c j (in_columns j lj));
    }
  where
    in_columns : (j : ℕ) → j < n → j < length g.columns
    in_columns j lj = subst (λ m. j < m) (sym good.count) lj

since_through : (n r : ℕ) (k : ℤ) (g1 : Grid) (ys : List Turn) (t : Turn) (zs : List Turn) (g h : Grid) → Good n g → r < n → Since n r k g1 g → AreWithout r ys → AreBelow (r + 1) (ys ++ t ∷ []) → Turns g (ys ++ t ∷ zs) h
    → (g2 : Grid) × Good n g2 × Since n r k g1 g2 × (next_step g2 ≡ Some (pivot t.leaves t.number t.enters))
since_through n r k g1 [] t zs g h good lr s w below run = (g, good, s, run.0)
since_through n r k g1 (y ∷ ys) t zs g h good lr s w below run =
    let u = turning n g y.leaves y.number y.enters good (pivot_facts n g y.leaves y.number y.enters good run.0) in
    since_through n r k g1 ys t zs (after_pivot g y.leaves y.number y.enters) h (good_turn n g y.leaves y.number y.enters good run.0) lr
    (since_more n r k g1 g y.leaves y.number y.enters good u below.0 below.1 lr w.0 w.1 s) w.2 below.2 run.1

-- r can't enter there, where the leaving variable is less
cant_come_back : (n r : ℕ) (k : ℤ) (g1 g2 : Grid) (c1 b2 : ℕ) (k2 : ℤ) → Good n g1 → PivotFacts g1 r k c1 → Good n g2 → Since n r k g1 g2 → r < n → next_step g2 ≡ Some (pivot b2 k2 r) → b2 < r → ⊥
cant_come_back n r k g1 g2 c1 b2 k2 good1 f1 good2 s lr h lb =
    cant_leave rises (col g1.columns b2) (col g2.columns b2) k2 (good1.positive b2) (good2.positive b2) (sym (s.lower b2 ln)) (sym (s.upper b2 ln)) (inside b2 lb) f2.outside refl total
  where
    f2 : PivotFacts g2 b2 k2 r
    f2 = pivot_facts n g2 b2 k2 r good2 h

    t2 : Turning n g2 b2 r
    t2 = turning n g2 b2 k2 r good2 f2

    rises : Bool
    rises = is_less (value_at g2 b2) (whole k2)

    ln : b2 < n
    ln = omega (arith, lb, lr)

    -- before r left, the variables below it were within their bounds
    inside : (j : ℕ) → j < r → missed (col g1.columns j) ≡ None
    inside j lj = by_kind (is_basic g1.rows j) refl
      where
        by_kind : (z : Bool) → is_basic g1.rows j ≡ z → missed (col g1.columns j) ≡ None
        by_kind true e = f1.least j lj e
        by_kind false e = f1.settled j (subst (λ m. j < m) (sym good1.count) (omega (arith, lj, lr))) e

    p : ℕ
    p = t2.place

    a : ℕ → Ratio
    a j = coefficient (row_at g2.rows p).entries j

    fa : (j : ℕ) → 0 < (a j).denominator
    fa j = coefficient_positive (row_at g2.rows p).entries j (good2.shape.positive p t2.pivot.in_rows)

    cell_at : (j : ℕ) → cell g2.rows b2 j ≡ a j
    cell_at j = ap (λ q. cell g2.rows q j) (sym t2.is_place) ∙ cell_is n g2.rows p j good2.shape t2.pivot.in_rows

    -- how far the variable came, away from the bound that b2 misses
    gap : ℕ → Rational
    gap j = cond rises (rational_sum (numbers g1 j) (rational_negation (numbers g2 j))) (rational_sum (numbers g2 j) (rational_negation (numbers g1 j)))

    same_gap : (j : ℕ) → value_at g2 j ≡ value_at g1 j → gap j ≡ rational_zero
    same_gap j e = by_side rises
      where
        by_side : (z : Bool) → cond z (rational_sum (numbers g1 j) (rational_negation (numbers g2 j))) (rational_sum (numbers g2 j) (rational_negation (numbers g1 j))) ≡ rational_zero
        by_side true = ap (λ x. rational_sum (numbers g1 j) (rational_negation (number x))) e ∙ solve rationals (numbers g1 j ∷ []) (sum (var 0) (minus (var 0))) nothing refl
        by_side false = ap (λ x. rational_sum (number x) (rational_negation (numbers g1 j))) e ∙ solve rationals (numbers g1 j ∷ []) (sum (var 0) (minus (var 0))) nothing refl

    term : (j : ℕ) → j < n → NonPos (rational_product (number (a j)) (gap j))
    term j lj = by_kind (basic_or_free g2.rows j)
      where
        by_order : IsFree g2.rows j → (j < r) ⊎ (r ≤ j) → NonPos (rational_product (number (a j)) (gap j))
        by_order free (inl less) =
            idle_term rises (a j) (col g1.columns j) (col g2.columns j) (fa j) (good1.positive j) (good2.positive j) (sym (s.lower j lj)) (sym (s.upper j lj)) (inside j less)
            (ap (λ x. helps rises x (col g2.columns j)) (sym (cell_at j)) ∙ f2.idle j less)
        by_order free (inr le) = by_same (cases_lt r j)
          where
            by_same : (r < j) ⊎ (j ≤ r) → NonPos (rational_product (number (a j)) (gap j))
            by_same (inl more) = subst NonPos (sym (ap (rational_product (number (a j))) (same_gap j (s.above j more lj free)) ∙ solve rationals (number (a j) ∷ []) (product (var 0) nothing) nothing refl)) nonpos_none
            by_same (inr most) =
                let is : r ≡ j = omega (arith, le, most) in
                subst (λ i. NonPos (rational_product (number (a i)) (gap i))) is
                (coming_term rises (a r) (col g1.columns r) (col g2.columns r) k (fa r) (good1.positive r) (good2.positive r) (sym (s.lower r lr)) (sym (s.upper r lr)) f1.outside s.stands
                (ap (λ x. helps rises x (col g2.columns r)) (sym (cell_at r)) ∙ f2.willing))

        by_kind : ((m : ℕ) × (m < length g2.rows) × (basic_at g2.rows m ≡ j)) ⊎ IsFree g2.rows j → NonPos (rational_product (number (a j)) (gap j))
        by_kind (inl m) =
            subst NonPos
            (sym (ap (λ x. rational_product x (gap j)) (ap (λ i. number (a i)) (sym m.2) ∙ good2.shape.separate m.0 p m.1 t2.pivot.in_rows) ∙ solve rationals (gap j ∷ []) (product nothing (var 0)) nothing refl))
            nonpos_none
        by_kind (inr free) = by_order free (cases_lt j r)

    -- b2 came no nearer
    row_1 : numbers g1 b2 ≡ span 0 n (λ j. rational_product (number (a j)) (numbers g1 j))
    row_1 = ap (numbers g1) (sym t2.is_place) ∙ s.solves p t2.pivot.in_rows

    row_2 : numbers g2 b2 ≡ span 0 n (λ j. rational_product (number (a j)) (numbers g2 j))
    row_2 = ap (numbers g2) (sym t2.is_place) ∙ good2.solves p t2.pivot.in_rows

    apart : (U W : ℕ → Rational) → rational_sum (span 0 n (λ j. rational_product (number (a j)) (U j))) (rational_negation (span 0 n (λ j. rational_product (number (a j)) (W j))))
        ≡ span 0 n (λ j. rational_product (number (a j)) (rational_sum (U j) (rational_negation (W j))))
    apart U W =
        let minus_one = rational_negation rational_one in
        ap (rational_sum (span 0 n (λ j. rational_product (number (a j)) (U j))))
        (solve rationals (span 0 n (λ j. rational_product (number (a j)) (W j)) ∷ []) (minus (var 0)) (product (minus unit) (var 0)) refl ∙ sym (span_product 0 n minus_one (λ j. rational_product (number (a j)) (W j))))
        ∙ sym (span_sum 0 n (λ j. rational_product (number (a j)) (U j)) (λ j. rational_product minus_one (rational_product (number (a j)) (W j))))
        ∙ span_same 0 n (λ j. rational_sum (rational_product (number (a j)) (U j)) (rational_product minus_one (rational_product (number (a j)) (W j)))) (λ j. rational_product (number (a j)) (rational_sum (U j) (rational_negation (W j))))
        (λ j l m. solve rationals (number (a j) ∷ U j ∷ W j ∷ []) (sum (product (var 0) (var 1)) (product (minus unit) (product (var 0) (var 2)))) (product (var 0) (sum (var 1) (minus (var 2)))) refl)

    total : NonPos (gap b2)
    total = by_side rises (span_nonpos 0 n (λ j. rational_product (number (a j)) (gap j)) (λ j l m. term j (omega (arith, m))))
      where
        by_side : (z : Bool) → NonPos (span 0 n (λ j. rational_product (number (a j)) (cond z (rational_sum (numbers g1 j) (rational_negation (numbers g2 j))) (rational_sum (numbers g2 j) (rational_negation (numbers g1 j))))))
            → NonPos (cond z (rational_sum (numbers g1 b2) (rational_negation (numbers g2 b2))) (rational_sum (numbers g2 b2) (rational_negation (numbers g1 b2))))
        by_side true q = subst NonPos (sym (apart (numbers g1) (numbers g2)) ∙ ap₂ (λ x y. rational_sum x (rational_negation y)) (sym row_1) (sym row_2)) q
        by_side false q = subst NonPos (sym (apart (numbers g2) (numbers g1)) ∙ ap₂ (λ x y. rational_sum x (rational_negation y)) (sym row_2) (sym row_1)) q

-- ---- the turns of a run

turns_below : (n : ℕ) (ts : List Turn) (g h : Grid) → Good n g → Turns g ts h → AreBelow n ts
turns_below n [] g h good run = tt
turns_below n (t ∷ ts) g h good run =
    let f = pivot_facts n g t.leaves t.number t.enters good run.0 in (
      subst (λ m. t.leaves < m) good.count f.leaves,
      subst (λ m. t.enters < m) good.count f.enters,
      turns_below n ts (after_pivot g t.leaves t.number t.enters) h (good_turn n g t.leaves t.number t.enters good run.0) run.1,
    )

turns_apart : (n : ℕ) (ts : List Turn) (g h : Grid) → Good n g → Turns g ts h → AreApart ts
turns_apart n [] g h good run = tt
turns_apart n (t ∷ ts) g h good run = (
  λ e. free_stays_out n g t.leaves t.number t.enters good run.0 (subst (IsFree g.rows) (sym e) (enters_free n g t.leaves t.number t.enters good run.0)),
  turns_apart n ts (after_pivot g t.leaves t.number t.enters) h (good_turn n g t.leaves t.number t.enters good run.0) run.1,
)

turns_alternate : (n : ℕ) (ts : List Turn) (g h : Grid) → Good n g → Turns g ts h → Alternates ts
turns_alternate n ts g h good run =
    record {
      between = λ xs ys zs a b r e w below na nb.
          let at = skip n xs (a ∷ (ys ++ b ∷ zs)) g h good (subst (λ l. Turns g l h) e run) in
          by_names ys zs a b r at.0 at.1 at.2 w below na nb;
    }
  where
    below_last : (m : ℕ) (ys : List Turn) (b : Turn) → AreBelow m (ys ++ b ∷ []) → (b.leaves < m) × (b.enters < m)
    below_last m [] b h = (h.0, h.1)
    below_last m (y ∷ ys) b h = below_last m ys b h.2

    by_names : (ys zs : List Turn) (a b : Turn) (r : ℕ) (g1 : Grid) → Good n g1 → Turns g1 (a ∷ (ys ++ b ∷ zs)) h → AreWithout r ys → AreBelow (r + 1) (a ∷ (ys ++ b ∷ [])) → Names r a → Names r b → (a.enters ≡ r) × (b.leaves ≡ r)
    by_names ys zs a b r g1 good1 run1 w below (inr x) (inl y) = (x, y)
    by_names ys zs a b r g1 good1 run1 w below (inl x) (inl y) =
        let t = turning n g1 a.leaves a.number a.enters good1 (pivot_facts n g1 a.leaves a.number a.enters good1 run1.0) in
        let s = free_through n r ys (b ∷ zs) (after_pivot g1 a.leaves a.number a.enters) h (good_turn n g1 a.leaves a.number a.enters good1 run1.0) (subst (IsFree (after_pivot g1 a.leaves a.number a.enters).rows) x (left_free n g1 a.leaves a.number a.enters good1 t)) w run1.1 in
        absurd (free_stays_out n s.0 b.leaves b.number b.enters s.1 s.3.0 (subst (IsFree s.0.rows) (sym y) s.2))
    by_names ys zs a b r g1 good1 run1 w below (inr x) (inr y) =
        let t = turning n g1 a.leaves a.number a.enters good1 (pivot_facts n g1 a.leaves a.number a.enters good1 run1.0) in
        let s = basic_through n r ys (b ∷ zs) (after_pivot g1 a.leaves a.number a.enters) h (good_turn n g1 a.leaves a.number a.enters good1 run1.0)
        (λ free. entered_basic n g1 a.leaves a.number a.enters good1 t (subst (IsFree (after_pivot g1 a.leaves a.number a.enters).rows) (sym x) free)) w run1.1 in
        absurd (s.2 (subst (IsFree s.0.rows) y (enters_free n s.0 b.leaves b.number b.enters s.1 s.3.0)))
    by_names ys zs a b r g1 good1 run1 w below (inl x) (inr y) =
        let f = pivot_facts n g1 a.leaves a.number a.enters good1 run1.0 in
        let t = turning n g1 a.leaves a.number a.enters good1 f in
        let lr : r < n = subst (λ q. q < n) x (subst (λ m. a.leaves < m) good1.count f.leaves) in
        let first : Since n r a.number g1 (after_pivot g1 a.leaves a.number a.enters) =
        subst (λ q. Since n q a.number g1 (after_pivot g1 a.leaves a.number a.enters)) x
        (since_first n g1 a.leaves a.number a.enters good1 t (let l = below.1 in omega (arith, l, x)) (omega (arith, lr, x))) in
        let s = since_through n r a.number g1 ys b zs (after_pivot g1 a.leaves a.number a.enters) h (good_turn n g1 a.leaves a.number a.enters good1 run1.0) lr first w below.2 run1.1 in
        let next : next_step s.0 ≡ Some (pivot b.leaves b.number r) = s.3 ∙ ap (λ q. Some (pivot b.leaves b.number q)) y in
        let last = below_last (r + 1) ys b below.2 in
        let ne : b.leaves ≢ r = λ e. free_stays_out n s.0 b.leaves b.number b.enters s.1 s.3 (subst (IsFree s.0.rows) (sym e) s.2.free) in
        absurd
        (cant_come_back n r a.number g1 s.0 a.enters b.leaves b.number good1 (subst (λ q. PivotFacts g1 q a.number a.enters) x f) s.1 s.2 lr next
        (let l = last.0 in omega (arith, l, ne)))

few : (n : ℕ) (ts : List Turn) (g h : Grid) → Good n g → Turns g ts h → length ts < 3 ^ n
few n ts g h good run = few_turns n ts (turns_below n ts g h good run) (turns_alternate n ts g h good run) (turns_apart n ts g h good run)

-- ---- runs with moves

one : (n : ℕ) → 0 < 3 ^ n
one zero = omega arith
one (suc n) = let ih = one n in omega (arith, ih)

pub within_bounds : (x : Ratio) (c : Column) (k : ℤ) → is_crossed c ≡ false → missed c ≡ Some k → missed (record { sum = c.sum; lower = c.lower; upper = c.upper; value = whole k }) ≡ None
within_bounds x c k crossed m = by_bounds c.lower c.upper c.value crossed m
  where
    whole_less : (a b : ℤ) → is_less (whole a) (whole b) ≡ int_lt a b
    whole_less a b = ap₂ int_lt (times_one a) (times_one b)

    int_same : (a : ℤ) → int_lt a a ≡ false
    int_same a = grind (arith, ints)

    by_bounds : (l u : Option ℤ) (y : Ratio) → is_crossed (record { sum = c.sum; lower = l; upper = u; value = y }) ≡ false → missed (record { sum = c.sum; lower = l; upper = u; value = y }) ≡ Some k
        → missed (record { sum = c.sum; lower = l; upper = u; value = whole k }) ≡ None
    by_bounds None None y q w = absurd (cc)
    by_bounds None (Some u) y q w = by_test (is_less (whole u) y) w
      where
        by_test : (t : Bool) → cond t (Some u) None ≡ Some k → cond (is_less (whole u) (whole k)) (Some u) None ≡ None
        by_test true e = let same : u ≡ k = cc in ap (λ z. cond z (Some u) None) (whole_less u k ∙ ap (int_lt u) (sym same) ∙ int_same u)
        by_test false e = absurd (cc)
    by_bounds (Some l) None y q w = by_test (is_less y (whole l)) w
      where
        by_test : (t : Bool) → cond t (Some l) None ≡ Some k → cond (is_less (whole k) (whole l)) (Some l) None ≡ None
        by_test true e = let same : l ≡ k = cc in ap (λ z. cond z (Some l) None) (whole_less k l ∙ ap (λ z. int_lt z l) (sym same) ∙ int_same l)
        by_test false e = absurd (cc)
    by_bounds (Some l) (Some u) y q w = by_test (is_less y (whole l)) (is_less (whole u) y) w
      where
        both : is_less (whole k) (whole l) ≡ false → is_less (whole u) (whole k) ≡ false → cond (is_less (whole k) (whole l)) (Some l) (cond (is_less (whole u) (whole k)) (Some u) None) ≡ None
        both e f = ap₂ (λ z v. cond z (Some l) (cond v (Some u) None)) e f

        by_test : (t v : Bool) → cond t (Some l) (cond v (Some u) None) ≡ Some k → cond (is_less (whole k) (whole l)) (Some l) (cond (is_less (whole u) (whole k)) (Some u) None) ≡ None
        by_test true v e =
            let same : l ≡ k = cc in
            both (whole_less k l ∙ ap (λ z. int_lt z l) (sym same) ∙ int_same l) (whole_less u k ∙ ap (int_lt u) (sym same) ∙ q)
        by_test false true e =
            let same : u ≡ k = cc in
            both (whole_less k l ∙ ap (λ z. int_lt z l) (sym same) ∙ q) (whole_less u k ∙ ap (int_lt u) (sym same) ∙ int_same u)
        by_test false false e = absurd (cc)

pub crossed_at : (cs : List Column) → any_crossed cs ≡ false → (j : ℕ) → j < length cs → is_crossed (col cs j) ≡ false
crossed_at [] h j lt = absurd (omega (arith, lt))
crossed_at (c ∷ cs) h zero lt = first (is_crossed c) (any_crossed cs) h
  where
    first : (m n : Bool) → (m || n) ≡ false → m ≡ false
    first true n q = absurd (cc)
    first false n q = refl
crossed_at (c ∷ cs) h (suc j) lt = crossed_at cs (second (is_crossed c) (any_crossed cs) h) j (omega (arith, lt))
  where
    second : (m n : Bool) → (m || n) ≡ false → n ≡ false
    second true n q = absurd (cc)
    second false n q = q

pub settled_after : (n : ℕ) (g : Grid) (b : ℕ) (k : ℤ) (c : ℕ) → Good n g → PivotFacts g b k c → Turning n g b c → Good n (after_pivot g b k c)
    → (j : ℕ) → j < length (after_pivot g b k c).columns → is_basic (after_pivot g b k c).rows j ≡ false → missed (col (after_pivot g b k c).columns j) ≡ None
settled_after n g b k c good f t good' j lt free = by_test (eqb j b) refl
  where
    lj : j < length g.columns
    lj = subst (λ m. j < m) (good'.count ∙ sym good.count) lt

    out : IsFree (after_pivot g b k c).rows j
    out = is_free n (after_pivot g b k c).rows j good'.shape free

    by_test : (z : Bool) → eqb j b ≡ z → missed (col (after_pivot g b k c).columns j) ≡ None
    by_test true e =
        let same : j ≡ b = eqb-true j b e in
        ap missed (pivot_column g b k c j lj
        ∙ ap (λ x. let w : Column = record { sum = (col g.columns j).sum; lower = (col g.columns j).lower; upper = (col g.columns j).upper; value = x } in w) (ap (pivoted_value g b k c) same ∙ pivot_leaves g b k c))
        ∙ within_bounds (whole k) (col g.columns j) k (crossed_at g.columns good.uncrossed j lj) (ap (λ i. missed (col g.columns i)) same ∙ f.outside)
    by_test false e =
        let nb : j ≢ b = differs j b e in
        let nc : j ≢ c = λ w. entered_basic n g b k c good t (subst (IsFree (after_pivot g b k c).rows) w out) in
        let before = free_before n g b k c j good t nb out in
        ap missed (pivot_column g b k c j lj
        ∙ ap (λ x. let w : Column = record { sum = (col g.columns j).sum; lower = (col g.columns j).lower; upper = (col g.columns j).upper; value = x } in w) (pivot_stays n g b k c j good.shape nb nc before))
        ∙ f.settled j lj (free_is g.rows j before)

-- from a grid where all that isn't basic is within its bounds, all steps are pivots
all_turns : (n : ℕ) (ss : List Step) (g h : Grid) → Good n g → ((j : ℕ) → j < length g.columns → is_basic g.rows j ≡ false → missed (col g.columns j) ≡ None) → Runs g ss h
    → (ts : List Turn) × Turns g ts h × (length ts ≡ pivots ss)
all_turns n [] g h good settled run = ([], run, refl)
all_turns n (take p ∷ ss) g h good settled run = absurd (step_facts g (take p) good.pending good.uncrossed run.0)
all_turns n (move i k ∷ ss) g h good settled run =
    let f : MoveFacts g i k = step_facts g (move i k) good.pending good.uncrossed run.0 in
    let bad : Some k ≡ None = sym f.outside ∙ settled i f.known f.free in absurd (cc)
all_turns n (pivot b k c ∷ ss) g h good settled run =
    let f = pivot_facts n g b k c good run.0 in
    let t = turning n g b k c good f in
    let good' = good_turn n g b k c good run.0 in
    let rest = all_turns n ss (after_pivot g b k c) h good' (settled_after n g b k c good f t good') run.1 in
    (record { leaves = b; number = k; enters = c } ∷ rest.0, (run.0, rest.1), let e = rest.2 in omega (arith, e))

short : (n : ℕ) (ss : List Step) (g h : Grid) → Good n g → Runs g ss h → pivots ss < 3 ^ n
short n [] g h good run = one n
short n (take p ∷ ss) g h good run = absurd (step_facts g (take p) good.pending good.uncrossed run.0)
short n (move i k ∷ ss) g h good run =
    short n ss (after_move g i k) h (good_moved n g i k good (step_facts g (move i k) good.pending good.uncrossed run.0)) run.1
short n (pivot b k c ∷ ss) g h good run =
    let f = pivot_facts n g b k c good run.0 in
    let all = all_turns n (pivot b k c ∷ ss) g h good f.settled run in
    subst (λ m. m < 3 ^ n) all.2 (few n all.0 g h good all.1)

-- ---- the premises

pub positive_row : (es : List Entry) → ArePositive es → RowValue.ArePositive es
positive_row [] h = tt
positive_row (e ∷ es) h = (h.0, positive_row es h.1)

pub shape_of : (g : Grid) → IsGrid g → Shape (length g.columns) g.rows
shape_of g is =
    record {
      distinct = is.distinct;
      basics = is.basics;
      entries = is.entries;
      positive = λ k lt. positive_row (row_at g.rows k).entries (is.positive k lt);
      separate = λ j k lj lk.
          none_number (coefficient (row_at g.rows k).entries (row_at g.rows j).basic) (coefficient_positive (row_at g.rows k).entries (row_at g.rows j).basic (positive_row (row_at g.rows k).entries (is.positive k lk))) (is.separate j k lj lk);
    }

pub good_grid : (g : Grid) → IsGrid g → g.pending ≡ None → MeetsRows g.rows (value_at g) → any_crossed g.columns ≡ false → Good (length g.columns) g
good_grid g is pending meets crossed =
    record {
      pending = pending;
      count = refl;
      shape = shape_of g is;
      positive = is.values;
      solves = λ k lt.
          RowValue.meets_to (value_at g) (row_at g.rows k) is.values (positive_row (row_at g.rows k).entries (is.positive k lt)) (meets k no_row lt)
          ∙ dot_coefficients 0 (length g.columns) (row_at g.rows k).entries (numbers g) (is.entries k lt);
      uncrossed = crossed;
    }

pub runs_are_short : RunsAreShort
runs_are_short g h ss is pending meets crossed run = short (length g.columns) ss g h (good_grid g is pending meets crossed) run
