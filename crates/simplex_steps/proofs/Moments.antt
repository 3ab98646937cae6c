-- Grids whose values meet the rows, and what their next steps make of them.
use Rattle.std.proofs.Common.{◌≡◌, ◌≢◌, ℕ, ℤ, zero, suc, ◌+◌, ◌<◌, ◌≤◌, ◌⊎◌, inl, inr, pos, sym, ap, ap₂, ◌∙◌, subst, refl, arith, List, [], ◌∷◌, length, Bool, true, false, cond, eqb, eqb-true, eq-eqb, Option, Some, None, ◌&&◌, ◌||◌}
use Rattle.std.proofs.lemmas.Int.{ints}
use Rattle.std.proofs.lemmas.Bool.{cases_lt}
use Rattle.fraction128.specs.declared.ratio.Ratio.{Ratio}
use Rattle.fraction128.specs.Number.{whole, is_less, is_positive, is_negative}
use Rattle.fraction128.specs.Listed.{negation_of, reciprocal_of, sum_of, fused}
use Rattle.fraction128.proofs.RingEquations.{var, sum, product, minus, unit, solve}
use Rattle.fraction128.proofs.RationalRing.{Rational, number, number_neg, rational_sum, rational_product, rational_negation, rationals}
use Rattle.fraction128.proofs.ExactSteps.{sum_positive, number_sum, product_positive, number_product, fused_positive, number_fused, reciprocal_positive, number_reciprocal}
use Rattle.fraction128.specs.declared.Column.{Column}
use Rattle.fraction128.specs.declared.TableRow.{TableRow}
use Rattle.fraction128.specs.declared.Grid.{Grid}
use Rattle.fraction128.specs.Grid.{is_some, entries_of, coefficient, cell, is_basic, value_at, is_crossed, any_crossed, can_rise, can_fall, helps, distance, moved_value, pivot_distance, pivoted_value, pivoted_rows, with_values, after_move, after_pivot}
use Rattle.simplex_steps.specs.Law.{row_at}
use Rattle.simplex_steps.proofs.Spans.{not_same, differs, coefficient_positive}
use Rattle.simplex_steps.proofs.Pivots.{Shape, Solves, IsPivot, entry_at, basic_at, row_is, row_lacks, basic_or_free, length_after, basic_entered, basic_stays, shape_after, solves_after, solves_shifted}
use Rattle.simplex_steps.proofs.Bland.{zero_back}
use Rattle.simplex_steps.proofs.NextStep.{no_col, col, MoveFacts, PivotFacts}

-- the numbers of the values
abbrev pub numbers : Grid → ℕ → Rational
numbers g j = number (value_at g j)

pub record Good (n : ℕ) (g : Grid) : Type 0 where
  pub pending : g.pending ≡ None
  pub count : length g.columns ≡ n
  pub shape : Shape n g.rows
  pub positive : (j : ℕ) → 0 < (value_at g j).denominator
  pub solves : Solves n g.rows (numbers g)
  pub uncrossed : any_crossed g.columns ≡ false

-- a variable isn't basic
abbrev pub IsFree : List TableRow → ℕ → Type 0
IsFree rows j = (k : ℕ) → k < length rows → basic_at rows k ≢ j

-- ---- columns with other values

pub length_with : (f : ℕ → Ratio) (i : ℕ) (cs : List Column) → length (with_values f i cs) ≡ length cs
length_with f i [] = refl
length_with f i (c ∷ cs) = ap suc (length_with f (i + 1) cs)

pub col_with : (f : ℕ → Ratio) (i : ℕ) (cs : List Column) (j n : ℕ) → n ≡ i + j → j < length cs
    → col (with_values f i cs) j ≡ record { sum = (col cs j).sum; lower = (col cs j).lower; upper = (col cs j).upper; value = f n }
col_with f i [] j n e lt = absurd (omega (arith, lt))
col_with f i (c ∷ cs) zero n e lt =
    let same : i ≡ n = omega (arith, e) in ap (λ m. let w : Column = record { sum = c.sum; lower = c.lower; upper = c.upper; value = f m } in w) same
col_with f i (c ∷ cs) (suc j) n e lt = col_with f (i + 1) cs j n (omega (arith, e)) (omega (arith, lt))

past_with : (f : ℕ → Ratio) (i : ℕ) (cs : List Column) (j : ℕ) → length cs ≤ j → col (with_values f i cs) j ≡ no_col
past_with f i [] j le = refl
past_with f i (c ∷ cs) zero le = absurd (omega (arith, le))
past_with f i (c ∷ cs) (suc j) le = past_with f (i + 1) cs j (omega (arith, le))

crossed_value : (c : Column) (x : Ratio) → is_crossed (record { sum = c.sum; lower = c.lower; upper = c.upper; value = x }) ≡ is_crossed c
crossed_value c x = by_bounds c.lower c.upper
  where
    by_bounds : (l u : Option ℤ) → is_crossed (record { sum = c.sum; lower = l; upper = u; value = x }) ≡ is_crossed (record { sum = c.sum; lower = l; upper = u; value = c.value })
    by_bounds (Some a) (Some b) = refl
    by_bounds (Some a) None = refl
    by_bounds None u = refl

crossed_with : (f : ℕ → Ratio) (i : ℕ) (cs : List Column) → any_crossed (with_values f i cs) ≡ any_crossed cs
crossed_with f i [] = refl
crossed_with f i (c ∷ cs) = ap₂ ◌||◌ (crossed_value c (f i)) (crossed_with f (i + 1) cs)

-- ---- basic or not

pub free_is : (rows : List TableRow) (j : ℕ) → IsFree rows j → is_basic rows j ≡ false
free_is rows j h = ap is_some (row_lacks rows j h)

pub basic_is : (n : ℕ) (rows : List TableRow) (k : ℕ) → Shape n rows → k < length rows → is_basic rows (basic_at rows k) ≡ true
basic_is n rows k s lt = ap is_some (row_is n rows k s lt)

pub is_free : (n : ℕ) (rows : List TableRow) (j : ℕ) → Shape n rows → is_basic rows j ≡ false → IsFree rows j
is_free n rows j s h k lt e = let z : true ≡ false = sym (basic_is n rows k s lt) ∙ ap (is_basic rows) e ∙ h in absurd (cc)

pub cell_is : (n : ℕ) (rows : List TableRow) (k j : ℕ) → Shape n rows → k < length rows → cell rows (basic_at rows k) j ≡ coefficient (row_at rows k).entries j
cell_is n rows k j s lt = ap (λ r. coefficient (entries_of r) j) (row_is n rows k s lt)

-- ---- the pivot that is next

pub record Turning (n : ℕ) (g : Grid) (b c : ℕ) : Type 0 where
  pub place : ℕ
  pub is_place : basic_at g.rows place ≡ b
  pub pivot : IsPivot n g.rows place c

-- the entering variable is basic in the pivot's row
pub entered_at : (n : ℕ) (g : Grid) (b c : ℕ) → (t : Turning n g b c) → basic_at (pivoted_rows n g.rows b c) t.place ≡ c
entered_at n g b c t = subst (λ i. basic_at (pivoted_rows n g.rows i c) t.place ≡ c) t.is_place (basic_entered n g.rows t.place c t.pivot.in_rows)

-- the other rows keep theirs
pub others_stay : (n : ℕ) (g : Grid) (b c : ℕ) → Turning n g b c → (m : ℕ) → m < length g.rows → basic_at g.rows m ≢ b → basic_at (pivoted_rows n g.rows b c) m ≡ basic_at g.rows m
others_stay n g b c t m lm ne =
    subst (λ i. basic_at (pivoted_rows n g.rows i c) m ≡ basic_at g.rows m) t.is_place
    (basic_stays n g.rows t.place c m lm (λ e. ne (e ∙ t.is_place)))

-- a variable other than the entering one is free after the pivot, where no other row had it as basic
pub free_after : (n : ℕ) (g : Grid) (b c j : ℕ) → Good n g → Turning n g b c → j ≢ c → ((m : ℕ) → m < length g.rows → basic_at g.rows m ≢ b → basic_at g.rows m ≢ j) → IsFree (pivoted_rows n g.rows b c) j
free_after n g b c j good t other rest m lm' e = by_leaving (eqb (basic_at g.rows m) b) refl
  where
    lm : m < length g.rows
    lm = subst (λ q. m < q) (length_after n g.rows b c) lm'

    by_leaving : (z : Bool) → eqb (basic_at g.rows m) b ≡ z → ⊥
    by_leaving true w =
        let same : m ≡ t.place = good.shape.distinct m t.place lm t.pivot.in_rows (eqb-true (basic_at g.rows m) b w ∙ sym t.is_place) in
        other (sym e ∙ ap (basic_at (pivoted_rows n g.rows b c)) same ∙ entered_at n g b c t)
    by_leaving false w =
        let ne = differs (basic_at g.rows m) b w in
        rest m lm ne (sym (others_stay n g b c t m lm ne) ∙ e)

-- so is the leaving one
pub left_after : (n : ℕ) (g : Grid) (b c : ℕ) → Good n g → Turning n g b c → IsFree (pivoted_rows n g.rows b c) b
left_after n g b c good t = free_after n g b c b good t (λ w. t.pivot.free t.place t.pivot.in_rows (t.is_place ∙ w)) (λ m lm ne. ne)

willing_some : (rises : Bool) (a : Ratio) (d : Column) → helps rises a d ≡ true → a.numerator ≢ pos 0
willing_some rises a d h z =
    let p : is_positive a ≡ false = grind (arith, ints) in
    let q : is_negative a ≡ false = grind (arith, ints) in
    let w : false ≡ true = by_side rises (is_positive a) (is_negative a) p q h in absurd (cc)
  where
    by_side : (r x y : Bool) → x ≡ false → y ≡ false → ((x && cond r (can_rise d) (can_fall d)) || (y && cond r (can_fall d) (can_rise d))) ≡ true → false ≡ true
    by_side r true y e f k = absurd (cc)
    by_side r false true e f k = absurd (cc)
    by_side r false false e f k = k

pub turning : (n : ℕ) (g : Grid) (b : ℕ) (k : ℤ) (c : ℕ) → Good n g → PivotFacts g b k c → Turning n g b c
turning n g b k c good f = by_kind (basic_or_free g.rows b)
  where
    by_kind : ((m : ℕ) × (m < length g.rows) × (basic_at g.rows m ≡ b)) ⊎ IsFree g.rows b → Turning n g b c
    by_kind (inr free) = absurd (let z : true ≡ false = sym f.basic ∙ free_is g.rows b free in cc)
    by_kind (inl m) =
        let entry : cell g.rows b c ≡ coefficient (row_at g.rows m.0).entries c = ap (λ q. cell g.rows q c) (sym m.2) ∙ cell_is n g.rows m.0 c good.shape m.1 in
        let some : (coefficient (row_at g.rows m.0).entries c).numerator ≢ pos 0 =
        subst (λ (x : Ratio). x.numerator ≢ pos 0) entry (willing_some (is_less (value_at g b) (whole k)) (cell g.rows b c) (col g.columns c) f.willing) in
        record {
          place = m.0;
          is_place = m.2;
          pivot = record {
            in_rows = m.1;
            known = subst (λ i. c < i) good.count f.enters;
            free = λ j lj e. some (zero_back (coefficient (row_at g.rows m.0).entries c) (coefficient_positive (row_at g.rows m.0).entries c (good.shape.positive m.0 m.1)) (ap (λ i. number (coefficient (row_at g.rows m.0).entries i)) (sym e) ∙ good.shape.separate j m.0 lj m.1));
            some = some;
          };
        }

-- ---- the grid after a pivot

pivot_length : (g : Grid) (b : ℕ) (k : ℤ) (c : ℕ) → length (after_pivot g b k c).columns ≡ length g.columns
pivot_length g b k c = length_with (pivoted_value g b k c) 0 g.columns

pub pivot_column : (g : Grid) (b : ℕ) (k : ℤ) (c j : ℕ) → j < length g.columns
    → col (after_pivot g b k c).columns j ≡ record { sum = (col g.columns j).sum; lower = (col g.columns j).lower; upper = (col g.columns j).upper; value = pivoted_value g b k c j }
pivot_column g b k c j lt = col_with (pivoted_value g b k c) 0 g.columns j j (omega arith) lt

pub pivot_value : (g : Grid) (b : ℕ) (k : ℤ) (c j : ℕ) → j < length g.columns → value_at (after_pivot g b k c) j ≡ pivoted_value g b k c j
pivot_value g b k c j lt = ap (λ (d : Column). d.value) (pivot_column g b k c j lt)

-- a variable that isn't basic and doesn't enter keeps its value
pub pivot_stays : (n : ℕ) (g : Grid) (b : ℕ) (k : ℤ) (c j : ℕ) → Shape n g.rows → j ≢ b → j ≢ c → IsFree g.rows j → pivoted_value g b k c j ≡ value_at g j
pivot_stays n g b k c j s nb nc free =
    ap (λ z. cond z (whole k) (cond (eqb j c) (sum_of (value_at g c) (pivot_distance g b k c)) (cond (is_basic g.rows j) (fused (value_at g j) (cell g.rows j c) (pivot_distance g b k c)) (value_at g j)))) (not_same j b nb)
    ∙ ap (λ z. cond z (sum_of (value_at g c) (pivot_distance g b k c)) (cond (is_basic g.rows j) (fused (value_at g j) (cell g.rows j c) (pivot_distance g b k c)) (value_at g j))) (not_same j c nc)
    ∙ ap (λ z. cond z (fused (value_at g j) (cell g.rows j c) (pivot_distance g b k c)) (value_at g j)) (free_is g.rows j free)

pub pivot_leaves : (g : Grid) (b : ℕ) (k : ℤ) (c : ℕ) → pivoted_value g b k c b ≡ whole k
pivot_leaves g b k c =
    ap (λ z. cond z (whole k) (cond (eqb b c) (sum_of (value_at g c) (pivot_distance g b k c)) (cond (is_basic g.rows b) (fused (value_at g b) (cell g.rows b c) (pivot_distance g b k c)) (value_at g b)))) (eq-eqb b b refl)

cell_positive : (n : ℕ) (g : Grid) (j c : ℕ) → Good n g → is_basic g.rows j ≡ true → 0 < (cell g.rows j c).denominator
cell_positive n g j c good e = by_kind (basic_or_free g.rows j)
  where
    by_kind : ((m : ℕ) × (m < length g.rows) × (basic_at g.rows m ≡ j)) ⊎ IsFree g.rows j → 0 < (cell g.rows j c).denominator
    by_kind (inr h) = absurd (let z : true ≡ false = sym e ∙ free_is g.rows j h in cc)
    by_kind (inl m) =
        subst (λ (x : Ratio). 0 < x.denominator) (sym (ap (λ q. cell g.rows q c) (sym m.2) ∙ cell_is n g.rows m.0 c good.shape m.1))
        (coefficient_positive (row_at g.rows m.0).entries c (good.shape.positive m.0 m.1))

pub good_after : (n : ℕ) (g : Grid) (b : ℕ) (k : ℤ) (c : ℕ) → Good n g → Turning n g b c → Good n (after_pivot g b k c)
good_after n g b k c good t =
    record {
      pending = good.pending;
      count = pivot_length g b k c ∙ good.count;
      shape = subst (Shape n) rows_are (shape_after n g.rows p c good.shape t.pivot);
      positive = λ j. positive_at j (cases_lt j (length g.columns));
      solves = subst (λ rows. Solves n rows W) rows_are (solves_after n g.rows p c W good.shape t.pivot old);
      uncrossed = crossed_with (pivoted_value g b k c) 0 g.columns ∙ good.uncrossed;
    }
  where
    p : ℕ
    p = t.place

    W : ℕ → Rational
    W = numbers (after_pivot g b k c)

    rows_are : pivoted_rows n g.rows (basic_at g.rows p) c ≡ pivoted_rows (length g.columns) g.rows b c
    rows_are = ap₂ (λ m i. pivoted_rows m g.rows i c) (sym good.count) t.is_place

    a : Ratio
    a = coefficient (row_at g.rows p).entries c

    a_is : cell g.rows b c ≡ a
    a_is = ap (λ q. cell g.rows q c) (sym t.is_place) ∙ cell_is n g.rows p c good.shape t.pivot.in_rows

    fa : 0 < a.denominator
    fa = coefficient_positive (row_at g.rows p).entries c (good.shape.positive p t.pivot.in_rows)

    dist : Ratio
    dist = pivot_distance g b k c

    fr : 0 < (reciprocal_of (cell g.rows b c)).denominator
    fr = subst (λ x. 0 < (reciprocal_of x).denominator) (sym a_is) (reciprocal_positive a t.pivot.some)

    fd : 0 < (distance k (value_at g b)).denominator
    fd = sum_positive (whole k) (negation_of (value_at g b)) (omega arith) (good.positive b)

    f_dist : 0 < dist.denominator
    f_dist = product_positive (distance k (value_at g b)) (reciprocal_of (cell g.rows b c)) fd fr

    -- the distance times the entry is what b lacks
    D : Rational
    D = number dist

    lacks : rational_product (number a) D ≡ rational_sum (number (whole k)) (rational_negation (numbers g b))
    lacks =
        ap (rational_product (number a)) (number_product (distance k (value_at g b)) (reciprocal_of (cell g.rows b c)) fd fr
        ∙ ap₂ rational_product (number_sum (whole k) (negation_of (value_at g b)) (omega arith) (good.positive b) ∙ ap (rational_sum (number (whole k))) (number_neg (value_at g b) (good.positive b))) (ap (λ x. number (reciprocal_of x)) a_is))
        ∙ solve rationals (number a ∷ number (whole k) ∷ numbers g b ∷ number (reciprocal_of a) ∷ []) (product (var 0) (product (sum (var 1) (minus (var 2))) (var 3))) (product (product (var 0) (var 3)) (sum (var 1) (minus (var 2)))) refl
        ∙ ap (λ x. rational_product x (rational_sum (number (whole k)) (rational_negation (numbers g b)))) (number_reciprocal a fa t.pivot.some)
        ∙ solve rationals (number (whole k) ∷ numbers g b ∷ []) (product unit (sum (var 0) (minus (var 1)))) (sum (var 0) (minus (var 1))) refl

    cb : c ≢ b
    cb e = t.pivot.free p t.pivot.in_rows (t.is_place ∙ sym e)

    lt_c : c < length g.columns
    lt_c = subst (λ m. c < m) (sym good.count) t.pivot.known

    entering_value : W c ≡ rational_sum (numbers g c) D
    entering_value =
        ap number (pivot_value g b k c c lt_c
        ∙ ap (λ z. cond z (whole k) (cond (eqb c c) (sum_of (value_at g c) dist) (cond (is_basic g.rows c) (fused (value_at g c) (cell g.rows c c) dist) (value_at g c)))) (not_same c b cb)
        ∙ ap (λ z. cond z (sum_of (value_at g c) dist) (cond (is_basic g.rows c) (fused (value_at g c) (cell g.rows c c) dist) (value_at g c))) (eq-eqb c c refl))
        ∙ number_sum (value_at g c) dist (good.positive c) f_dist

    basic_value : (m : ℕ) → m < length g.rows → W (basic_at g.rows m) ≡ rational_sum (numbers g (basic_at g.rows m)) (rational_product (entry_at g.rows m c) D)
    basic_value m lm = by_leaving (eqb (basic_at g.rows m) b) refl
      where
        i : ℕ
        i = basic_at g.rows m

        li : i < length g.columns
        li = subst (λ q. i < q) (sym good.count) (good.shape.basics m lm)

        by_leaving : (z : Bool) → eqb i b ≡ z → W i ≡ rational_sum (numbers g i) (rational_product (entry_at g.rows m c) D)
        by_leaving true e =
            let same : i ≡ b = eqb-true i b e in
            let at_p : m ≡ p = good.shape.distinct m p lm t.pivot.in_rows (same ∙ sym t.is_place) in
            ap number (pivot_value g b k c i li ∙ ap (pivoted_value g b k c) same ∙ pivot_leaves g b k c)
            ∙ solve rationals (number (whole k) ∷ numbers g b ∷ []) (var 0) (sum (var 1) (sum (var 0) (minus (var 1)))) refl
            ∙ ap₂ rational_sum (ap (numbers g) (sym same)) (sym lacks ∙ ap (λ q. rational_product (entry_at g.rows q c) D) (sym at_p))
        by_leaving false e =
            ap number (pivot_value g b k c i li
            ∙ ap (λ z. cond z (whole k) (cond (eqb i c) (sum_of (value_at g c) dist) (cond (is_basic g.rows i) (fused (value_at g i) (cell g.rows i c) dist) (value_at g i)))) e
            ∙ ap (λ z. cond z (sum_of (value_at g c) dist) (cond (is_basic g.rows i) (fused (value_at g i) (cell g.rows i c) dist) (value_at g i))) (not_same i c (t.pivot.free m lm))
            ∙ ap (λ z. cond z (fused (value_at g i) (cell g.rows i c) dist) (value_at g i)) (basic_is n g.rows m good.shape lm)
            ∙ ap (λ x. fused (value_at g i) x dist) (cell_is n g.rows m c good.shape lm))
            ∙ number_fused (value_at g i) (coefficient (row_at g.rows m).entries c) dist (good.positive i) (coefficient_positive (row_at g.rows m).entries c (good.shape.positive m lm)) f_dist

    other_value : (j : ℕ) → j < n → j ≢ c → IsFree g.rows j → W j ≡ numbers g j
    other_value j lj nc free =
        ap number (pivot_value g b k c j (subst (λ m. j < m) (sym good.count) lj)
        ∙ pivot_stays n g b k c j good.shape (λ e. free p t.pivot.in_rows (t.is_place ∙ sym e)) nc free)

    old : Solves n g.rows W
    old = solves_shifted n g.rows c D (numbers g) W good.shape t.pivot.known t.pivot.free good.solves basic_value entering_value other_value

    positive_at : (j : ℕ) → (j < length g.columns) ⊎ (length g.columns ≤ j) → 0 < (value_at (after_pivot g b k c) j).denominator
    positive_at j (inr le) = subst (λ (d : Column). 0 < d.value.denominator) (sym (past_with (pivoted_value g b k c) 0 g.columns j le)) (omega arith)
    positive_at j (inl lt) = subst (λ (x : Ratio). 0 < x.denominator) (sym (pivot_value g b k c j lt)) (by_tests (eqb j b) (eqb j c) (is_basic g.rows j) refl)
      where
        by_tests : (x y z : Bool) → is_basic g.rows j ≡ z
            → 0 < (cond x (whole k) (cond y (sum_of (value_at g c) dist) (cond z (fused (value_at g j) (cell g.rows j c) dist) (value_at g j)))).denominator
        by_tests true y z e = omega arith
        by_tests false true z e = sum_positive (value_at g c) dist (good.positive c) f_dist
        by_tests false false true e = fused_positive (value_at g j) (cell g.rows j c) dist (good.positive j) (cell_positive n g j c good e) f_dist
        by_tests false false false e = good.positive j

-- ---- the grid after a move

pub good_moved : (n : ℕ) (g : Grid) (i : ℕ) (k : ℤ) → Good n g → MoveFacts g i k → Good n (after_move g i k)
good_moved n g i k good f =
    record {
      pending = good.pending;
      count = length_with (moved_value g i k) 0 g.columns ∙ good.count;
      shape = good.shape;
      positive = λ j. positive_at j (cases_lt j (length g.columns));
      solves = solves_shifted n g.rows i D (numbers g) W good.shape (subst (λ m. i < m) good.count f.known) free_i good.solves basic_value itself other_value;
      uncrossed = crossed_with (moved_value g i k) 0 g.columns ∙ good.uncrossed;
    }
  where
    W : ℕ → Rational
    W = numbers (after_move g i k)

    free_i : IsFree g.rows i
    free_i = is_free n g.rows i good.shape f.free

    dist : Ratio
    dist = distance k (value_at g i)

    f_dist : 0 < dist.denominator
    f_dist = sum_positive (whole k) (negation_of (value_at g i)) (omega arith) (good.positive i)

    D : Rational
    D = number dist

    D_is : D ≡ rational_sum (number (whole k)) (rational_negation (numbers g i))
    D_is = number_sum (whole k) (negation_of (value_at g i)) (omega arith) (good.positive i) ∙ ap (rational_sum (number (whole k))) (number_neg (value_at g i) (good.positive i))

    value_is : (j : ℕ) → j < length g.columns → value_at (after_move g i k) j ≡ moved_value g i k j
    value_is j lt = ap (λ (d : Column). d.value) (col_with (moved_value g i k) 0 g.columns j j (omega arith) lt)

    itself : W i ≡ rational_sum (numbers g i) D
    itself =
        ap number (value_is i f.known ∙ ap (λ z. cond z (whole k) (cond (is_basic g.rows i) (fused (value_at g i) (cell g.rows i i) dist) (value_at g i))) (eq-eqb i i refl))
        ∙ solve rationals (number (whole k) ∷ numbers g i ∷ []) (var 0) (sum (var 1) (sum (var 0) (minus (var 1)))) refl
        ∙ ap (rational_sum (numbers g i)) (sym D_is)

    basic_value : (m : ℕ) → m < length g.rows → W (basic_at g.rows m) ≡ rational_sum (numbers g (basic_at g.rows m)) (rational_product (entry_at g.rows m i) D)
    basic_value m lm =
        let j = basic_at g.rows m in
        ap number (value_is j (subst (λ q. j < q) (sym good.count) (good.shape.basics m lm))
        ∙ ap (λ z. cond z (whole k) (cond (is_basic g.rows j) (fused (value_at g j) (cell g.rows j i) dist) (value_at g j))) (not_same j i (free_i m lm))
        ∙ ap (λ z. cond z (fused (value_at g j) (cell g.rows j i) dist) (value_at g j)) (basic_is n g.rows m good.shape lm)
        ∙ ap (λ x. fused (value_at g j) x dist) (cell_is n g.rows m i good.shape lm))
        ∙ number_fused (value_at g j) (coefficient (row_at g.rows m).entries i) dist (good.positive j) (coefficient_positive (row_at g.rows m).entries i (good.shape.positive m lm)) f_dist

    other_value : (j : ℕ) → j < n → j ≢ i → IsFree g.rows j → W j ≡ numbers g j
    other_value j lj ni free =
        ap number (value_is j (subst (λ m. j < m) (sym good.count) lj)
        ∙ ap (λ z. cond z (whole k) (cond (is_basic g.rows j) (fused (value_at g j) (cell g.rows j i) dist) (value_at g j))) (not_same j i ni)
        ∙ ap (λ z. cond z (fused (value_at g j) (cell g.rows j i) dist) (value_at g j)) (free_is g.rows j free))

    positive_at : (j : ℕ) → (j < length g.columns) ⊎ (length g.columns ≤ j) → 0 < (value_at (after_move g i k) j).denominator
    positive_at j (inr le) = subst (λ (d : Column). 0 < d.value.denominator) (sym (past_with (moved_value g i k) 0 g.columns j le)) (omega arith)
    positive_at j (inl lt) = subst (λ (x : Ratio). 0 < x.denominator) (sym (value_is j lt)) (by_tests (eqb j i) (is_basic g.rows j) refl)
      where
        by_tests : (x z : Bool) → is_basic g.rows j ≡ z → 0 < (cond x (whole k) (cond z (fused (value_at g j) (cell g.rows j i) dist) (value_at g j))).denominator
        by_tests true z e = omega arith
        by_tests false true e = fused_positive (value_at g j) (cell g.rows j i) dist (good.positive j) (cell_positive n g j i good e) f_dist
        by_tests false false e = good.positive j
