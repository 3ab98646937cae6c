-- The numbers of next steps that fit are fractions in lowest terms.
use Rattle.std.proofs.Common.{◌≡◌, ◌≢◌, ℕ, ℤ, zero, suc, ◌<◌, ◌^◌, pos, negsuc, neg_ℤ, Bool, true, false, cond, eqb, eqb-true, List, [], ◌∷◌, length, Option, Some, None, unsigned_abs, refl, sym, ap, ◌∙◌, subst, arith}
use Rattle.std.specs.Prelude.{All, ◌&&◌, ◌||◌, ◌==◌}
use Rattle.std.proofs.lemmas.Int.{ints}
use Rattle.fraction128.specs.declared.ratio.Ratio.{Ratio}
use Rattle.fraction128.specs.Gcd.{gcd_of}
use Rattle.fraction128.specs.Whole.{InRange}
use Rattle.fraction128.specs.Number.{whole}
use Rattle.fraction128.specs.Ratio.{IsFraction}
use Rattle.fraction128.specs.Listed.{negation_of, reciprocal_of, sum_of, sum_steps, product_steps, fused}
use Rattle.fraction128.proofs.Divisors.{Apart-gcd, gcd-Apart, Apart-swap}
use Rattle.fraction128.proofs.LowestTerms.{sum-is, IsFraction-whole}
use Rattle.fraction128.specs.declared.Entry.{Entry}
use Rattle.fraction128.specs.declared.TableRow.{TableRow}
use Rattle.fraction128.specs.declared.Grid.{Grid}
use Rattle.simplex_steps.specs.Law.{IsLawful, row_at, no_row}
use Rattle.simplex_steps.proofs.Spans.{differs}
use Rattle.simplex_steps.proofs.NextStep.{MoveFacts, PivotFacts, step_facts}
use Rattle.simplex_steps.proofs.Moments.{cell_is, Turning, turning}
use Rattle.simplex_steps.proofs.Keeping.{good_of}
use Rattle.fraction128.specs.Grid.{move, pivot, next_step, move_fits, moved_value, pivot_fits, pivot_values_fit, form_entry, factor, scaled_entry, pivoted_entry, pivot_distance, pivoted_value, is_some, coefficient, cell, row_of, entries_of, is_basic, value_at, every, every_row, fit, fused_fits, distance, distance_fits}
use Rattle.fraction128.specs.Lines.{IsEntry, IsRow, AreRows}
use Rattle.tableau.proofs.Absent.{and_parts, none_outside, product_fraction, fused_fraction, negation_fraction, zero_fraction, minus_one_fraction}

-- ---- fractions

pub sum_fraction : (x y : Ratio) → IsFraction x → IsFraction y → fit (sum_steps x y) ≡ true → IsFraction (sum_of x y)
sum_fraction x y fx fy e = (sum-is x y fx fy (none_outside (sum_steps x y) e)).0

pub reciprocal_fraction : (x : Ratio) → IsFraction x → x.numerator ≢ pos 0 → IsFraction (reciprocal_of x)
reciprocal_fraction x f some = by x.numerator x.denominator f.lowest f.numerator_in f.denominator_in f.positive some
  where
    by : (n : ℤ) (d : ℕ) → gcd_of (unsigned_abs n) d ≡ 1 → InRange n → d < 2 ^ 127 → 0 < d → n ≢ pos 0 → IsFraction (reciprocal_of (record { numerator = n; denominator = d }))
    by (pos zero) d low n_in d_in above ne = absurd (ne refl)
    by (pos (suc n)) d low n_in d_in above ne = record { positive = omega arith; lowest = gcd-Apart d (suc n) (Apart-swap (suc n) d (Apart-gcd (suc n) d low)); numerator_in = d_in; denominator_in = n_in }
    by (negsuc n) d low n_in d_in above ne =
        let same : unsigned_abs (neg_ℤ (pos d)) ≡ d = omega (arith, ints) in
        record {
          positive = omega arith;
          lowest = ap (λ m. gcd_of m (suc n)) same ∙ gcd-Apart d (suc n) (Apart-swap (suc n) d (Apart-gcd (suc n) d low));
          numerator_in = subst (λ m. m < 2 ^ 127) (sym same) d_in;
          denominator_in = n_in;
        }

-- ---- rows with fractions

abbrev HaveFractions : List TableRow → Type 0
HaveFractions [] = Unit {0}
HaveFractions (r ∷ rs) = ((j : ℕ) → IsFraction (coefficient r.entries j)) × HaveFractions rs

coefficient_fraction : (g : Grid) (es : List Entry) → All (IsEntry g) es → (j : ℕ) → IsFraction (coefficient es j)
coefficient_fraction g [] all j = zero_fraction
coefficient_fraction g (e ∷ es) all j = by (eqb e.variable j) (coefficient_fraction g es (λ k d lt. all (suc k) d (omega (arith, lt))) j)
  where
    by : (z : Bool) → IsFraction (coefficient es j) → IsFraction (cond z e.coefficient (coefficient es j))
    by true h = (all zero e (omega arith)).fraction
    by false h = h

have_fractions : (g : Grid) (rows : List TableRow) → All (IsRow g) rows → HaveFractions rows
have_fractions g [] all = tt
have_fractions g (r ∷ rs) all = (λ j. coefficient_fraction g r.entries (all zero r (omega arith)).entries j, have_fractions g rs (λ k d lt. all (suc k) d (omega (arith, lt))))

pub cell_fraction : (rows : List TableRow) → HaveFractions rows → (i j : ℕ) → IsFraction (cell rows i j)
cell_fraction [] h i j = zero_fraction
cell_fraction (r ∷ rs) h i j = by (eqb r.basic i) (cell_fraction rs h.1 i j)
  where
    by : (z : Bool) → IsFraction (cell rs i j) → IsFraction (coefficient (entries_of (cond z (Some r) (row_of rs i))) j)
    by true w = h.0 j
    by false w = w

-- what holds of every row holds of that of a basic variable
abbrev row_or : Option TableRow → TableRow
row_or (Some r) = r
row_or None = record { basic = 0; entries = [] }

row_passes : (p : TableRow → Bool) (rows : List TableRow) (i : ℕ) → every_row rows p ≡ true → is_basic rows i ≡ true → ((row_or (row_of rows i)).basic ≡ i) × (p (row_or (row_of rows i)) ≡ true)
row_passes p [] i e b = let z : false ≡ true = b in absurd (cc)
row_passes p (r ∷ rs) i e b = by (eqb r.basic i) refl (λ w. row_passes p rs i (and_parts (p r) (every_row rs p) e).1 w) b
  where
    by : (z : Bool) → eqb r.basic i ≡ z → (is_basic rs i ≡ true → ((row_or (row_of rs i)).basic ≡ i) × (p (row_or (row_of rs i)) ≡ true)) → is_some (cond z (Some r) (row_of rs i)) ≡ true
        → ((row_or (cond z (Some r) (row_of rs i))).basic ≡ i) × (p (row_or (cond z (Some r) (row_of rs i))) ≡ true)
    by true w later b_ = (eqb-true r.basic i w, (and_parts (p r) (every_row rs p) e).0)
    by false w later b_ = later b_

row_is_it : (rows : List TableRow) (i j : ℕ) → is_basic rows i ≡ true → coefficient (row_or (row_of rows i)).entries j ≡ cell rows i j
row_is_it rows i j b = by (row_of rows i) b
  where
    by : (o : Option TableRow) → is_some o ≡ true → coefficient (row_or o).entries j ≡ coefficient (entries_of o) j
    by (Some r) h = refl
    by None h = let z : false ≡ true = h in absurd (cc)

-- the shift of a basic variable's value fits
pub shift_fraction : (g : Grid) (i : ℕ) (t : Ratio) (j : ℕ) → AreRows g → IsFraction t → IsFraction (value_at g j) → is_basic g.rows j ≡ true
    → every_row g.rows (λ r. fused_fits (value_at g r.basic) (coefficient r.entries i) t) ≡ true → IsFraction (fused (value_at g j) (cell g.rows j i) t)
shift_fraction g i t j rows ft fv basic e =
    let h = row_passes (λ r. fused_fits (value_at g r.basic) (coefficient r.entries i) t) g.rows j e basic in
    let fits : fused_fits (value_at g j) (cell g.rows j i) t ≡ true =
    subst (λ a. fused_fits (value_at g j) a t ≡ true) (row_is_it g.rows j i basic) (subst (λ b. fused_fits (value_at g b) (coefficient (row_or (row_of g.rows j)).entries i) t ≡ true) h.0 h.1) in
    fused_fraction (value_at g j) (cell g.rows j i) t fv (cell_fraction g.rows (have_fractions g g.rows rows.each) j i) ft fits

-- ---- each number, each row

every_at : (n : ℕ) (p : ℕ → Bool) → every n p ≡ true → (j : ℕ) → j < n → p j ≡ true
every_at zero p e j lt = absurd (omega (arith, lt))
every_at (suc n) p e j lt = by (eqb j n) refl (λ l. every_at n p (and_parts (every n p) (p n) e).0 j l)
  where
    by : (z : Bool) → eqb j n ≡ z → (j < n → p j ≡ true) → p j ≡ true
    by true w before = ap p (eqb-true j n w) ∙ (and_parts (every n p) (p n) e).1
    by false w before = before (let ne : j ≢ n = differs j n w in omega (arith, lt, ne))

every_row_at : (p : TableRow → Bool) (rows : List TableRow) (m : ℕ) → every_row rows p ≡ true → m < length rows → p (row_at rows m) ≡ true
every_row_at p [] m e lt = absurd (omega (arith, lt))
every_row_at p (r ∷ rs) zero e lt = (and_parts (p r) (every_row rs p) e).0
every_row_at p (r ∷ rs) (suc m) e lt = every_row_at p rs m (and_parts (p r) (every_row rs p) e).1 (omega (arith, lt))

-- ---- steps

module _ (g : Grid) (law : IsLawful g) (are : AreRows g) (fractions : (i : ℕ) → i < length g.columns → IsFraction (value_at g i)) where
  -- ---- a move

  module _ (i : ℕ) (k : ℤ) (next : next_step g ≡ Some (move i k)) (fits : move_fits g i k ≡ true) (in_range : InRange k) where
    facts_here : MoveFacts g i k
    facts_here = step_facts g (move i k) law.pending law.uncrossed next

    fit_parts : (distance_fits k (value_at g i) ≡ true) × (every_row g.rows (λ r. fused_fits (value_at g r.basic) (coefficient r.entries i) (distance k (value_at g i))) ≡ true)
    fit_parts = and_parts (distance_fits k (value_at g i)) (every_row g.rows (λ r. fused_fits (value_at g r.basic) (coefficient r.entries i) (distance k (value_at g i)))) fits

    moved_distance : IsFraction (distance k (value_at g i))
    moved_distance = sum_fraction (whole k) (negation_of (value_at g i)) (IsFraction-whole k in_range) (negation_fraction (value_at g i) (fractions i facts_here.known)) fit_parts.0

    pub moved_fraction : (j : ℕ) → j < length g.columns → IsFraction (moved_value g i k j)
    moved_fraction j lt = by (eqb j i) (is_basic g.rows j) refl
      where
        by : (z w : Bool) → is_basic g.rows j ≡ w → IsFraction (cond z (whole k) (cond w (fused (value_at g j) (cell g.rows j i) (distance k (value_at g i))) (value_at g j)))
        by true w e = IsFraction-whole k in_range
        by false true e = shift_fraction g i (distance k (value_at g i)) j are moved_distance (fractions j lt) e fit_parts.1
        by false false e = fractions j lt

  -- ---- a pivot

  module _ (b : ℕ) (k : ℤ) (c : ℕ) (next : next_step g ≡ Some (pivot b k c)) (fits : (pivot_fits (length g.columns) g.rows b c && pivot_values_fit g b k c) ≡ true) (in_range : InRange k) where
    turn : Turning (length g.columns) g b c
    turn = turning (length g.columns) g b k c (good_of g law) (step_facts g (pivot b k c) law.pending law.uncrossed next)

    pivot_facts : PivotFacts g b k c
    pivot_facts = step_facts g (pivot b k c) law.pending law.uncrossed next

    leaving_known : b < length g.columns
    leaving_known = pivot_facts.leaves

    cells : (j : ℕ) → IsFraction (cell g.rows b j)
    cells j = cell_fraction g.rows (have_fractions g g.rows are.each) b j

    cell_some : (cell g.rows b c).numerator ≢ pos 0
    cell_some =
        subst (λ (x : Ratio). x.numerator ≢ pos 0)
        (sym (ap (λ i. cell g.rows i c) (sym turn.is_place) ∙ cell_is (length g.columns) g.rows turn.place c (good_of g law).shape turn.pivot.in_rows)) turn.pivot.some

    reciprocal : IsFraction (reciprocal_of (cell g.rows b c))
    reciprocal = reciprocal_fraction (cell g.rows b c) (cells c) cell_some

    row_parts : (every (length g.columns) (λ j. fit (product_steps (form_entry g.rows b j) (factor g.rows b c))) ≡ true)
        × (every_row g.rows (λ r. (r.basic == b) || every (length g.columns) (λ j. fused_fits (coefficient r.entries j) (coefficient r.entries c) (scaled_entry g.rows b c j))) ≡ true)
    row_parts =
        and_parts (every (length g.columns) (λ j. fit (product_steps (form_entry g.rows b j) (factor g.rows b c))))
        (every_row g.rows (λ r. (r.basic == b) || every (length g.columns) (λ j. fused_fits (coefficient r.entries j) (coefficient r.entries c) (scaled_entry g.rows b c j))))
        (and_parts (pivot_fits (length g.columns) g.rows b c) (pivot_values_fit g b k c) fits).0

    forms : (j : ℕ) → IsFraction (form_entry g.rows b j)
    forms j = by (eqb j b)
      where
        by : (z : Bool) → IsFraction (cond z (whole (negsuc 0)) (cell g.rows b j))
        by true = minus_one_fraction
        by false = cells j

    scaled : (j : ℕ) → j < length g.columns → IsFraction (scaled_entry g.rows b c j)
    scaled j lt =
        product_fraction (form_entry g.rows b j) (factor g.rows b c) (forms j) (negation_fraction (reciprocal_of (cell g.rows b c)) reciprocal)
        (every_at (length g.columns) (λ i. fit (product_steps (form_entry g.rows b i) (factor g.rows b c))) row_parts.0 j lt)

    in_row : (m : ℕ) → m < length g.rows → (j : ℕ) → IsFraction (coefficient (row_at g.rows m).entries j)
    in_row m lt j = coefficient_fraction g (row_at g.rows m).entries (are.each m no_row lt).entries j

    pub entry_fraction : (m : ℕ) → m < length g.rows → (j : ℕ) → j < length g.columns → IsFraction (pivoted_entry g.rows b c (row_at g.rows m) j)
    entry_fraction m lt j lj = by (eqb (row_at g.rows m).basic b) (eqb j c) refl
      where
        fused_all : (z : Bool) → eqb (row_at g.rows m).basic b ≡ z → z ≡ false
            → (z || every (length g.columns) (λ i. fused_fits (coefficient (row_at g.rows m).entries i) (coefficient (row_at g.rows m).entries c) (scaled_entry g.rows b c i))) ≡ true
            → every (length g.columns) (λ i. fused_fits (coefficient (row_at g.rows m).entries i) (coefficient (row_at g.rows m).entries c) (scaled_entry g.rows b c i)) ≡ true
        fused_all true e f h = absurd (let w : true ≡ false = f in cc)
        fused_all false e f h = h

        by : (z w : Bool) → eqb (row_at g.rows m).basic b ≡ z
            → IsFraction (cond z (cond w (whole (pos 0)) (scaled_entry g.rows b c j)) (fused (coefficient (row_at g.rows m).entries j) (coefficient (row_at g.rows m).entries c) (scaled_entry g.rows b c j)))
        by true true e = zero_fraction
        by true false e = scaled j lj
        by false w e =
            fused_fraction (coefficient (row_at g.rows m).entries j) (coefficient (row_at g.rows m).entries c) (scaled_entry g.rows b c j) (in_row m lt j) (in_row m lt c) (scaled j lj)
            (every_at (length g.columns) (λ i. fused_fits (coefficient (row_at g.rows m).entries i) (coefficient (row_at g.rows m).entries c) (scaled_entry g.rows b c i))
            (fused_all (eqb (row_at g.rows m).basic b) refl e
            (every_row_at (λ r. (r.basic == b) || every (length g.columns) (λ i. fused_fits (coefficient r.entries i) (coefficient r.entries c) (scaled_entry g.rows b c i))) g.rows m row_parts.1 lt))
            j lj)

    value_parts : (((distance_fits k (value_at g b) && fit (product_steps (distance k (value_at g b)) (reciprocal_of (cell g.rows b c)))) && fit (sum_steps (value_at g c) (pivot_distance g b k c))) ≡ true)
        × (every_row g.rows (λ r. fused_fits (value_at g r.basic) (coefficient r.entries c) (pivot_distance g b k c)) ≡ true)
    value_parts =
        and_parts ((distance_fits k (value_at g b) && fit (product_steps (distance k (value_at g b)) (reciprocal_of (cell g.rows b c)))) && fit (sum_steps (value_at g c) (pivot_distance g b k c)))
        (every_row g.rows (λ r. fused_fits (value_at g r.basic) (coefficient r.entries c) (pivot_distance g b k c)))
        (and_parts (pivot_fits (length g.columns) g.rows b c) (pivot_values_fit g b k c) fits).1

    first_parts : ((distance_fits k (value_at g b) && fit (product_steps (distance k (value_at g b)) (reciprocal_of (cell g.rows b c)))) ≡ true) × (fit (sum_steps (value_at g c) (pivot_distance g b k c)) ≡ true)
    first_parts = and_parts (distance_fits k (value_at g b) && fit (product_steps (distance k (value_at g b)) (reciprocal_of (cell g.rows b c)))) (fit (sum_steps (value_at g c) (pivot_distance g b k c))) value_parts.0

    distance_parts : (distance_fits k (value_at g b) ≡ true) × (fit (product_steps (distance k (value_at g b)) (reciprocal_of (cell g.rows b c))) ≡ true)
    distance_parts = and_parts (distance_fits k (value_at g b)) (fit (product_steps (distance k (value_at g b)) (reciprocal_of (cell g.rows b c)))) first_parts.0

    pivot_way : IsFraction (pivot_distance g b k c)
    pivot_way =
        product_fraction (distance k (value_at g b)) (reciprocal_of (cell g.rows b c))
        (sum_fraction (whole k) (negation_of (value_at g b)) (IsFraction-whole k in_range) (negation_fraction (value_at g b) (fractions b leaving_known)) distance_parts.0) reciprocal distance_parts.1

    pub pivoted_fraction : (j : ℕ) → j < length g.columns → IsFraction (pivoted_value g b k c j)
    pivoted_fraction j lt = by (eqb j b) (eqb j c) (is_basic g.rows j) refl
      where
        by : (z w y : Bool) → is_basic g.rows j ≡ y
            → IsFraction (cond z (whole k) (cond w (sum_of (value_at g c) (pivot_distance g b k c)) (cond y (fused (value_at g j) (cell g.rows j c) (pivot_distance g b k c)) (value_at g j))))
        by true w y e = IsFraction-whole k in_range
        by false true y e = sum_fraction (value_at g c) (pivot_distance g b k c) (fractions c turn.pivot.known) pivot_way first_parts.1
        by false false true e = shift_fraction g c (pivot_distance g b k c) j are pivot_way (fractions j lt) e value_parts.1
        by false false false e = fractions j lt
