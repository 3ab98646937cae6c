-- A basis determines its rows.
use Rattle.std.proofs.Common.{◌≡◌, ℕ, ◌<◌, ◌⊎◌, inl, inr, pos, sym, ap, ◌∙◌, subst, refl, arith, List, [], ◌∷◌, length, Bool, true, false, cond, eqb, eqb-true}
use Rattle.fraction128.specs.declared.ratio.Ratio.{Ratio}
use Rattle.fraction128.specs.Number.{whole}
use Rattle.fraction128.proofs.RingEquations.{var, product, nothing, unit, solve}
use Rattle.fraction128.proofs.RationalRing.{Rational, number, number_eq, number_back, rational_product, rational_zero, rational_one, rational_zero-is, rational_one-is, rationals}
use Rattle.fraction128.specs.declared.TableRow.{TableRow}
use Rattle.fraction128.specs.Grid.{cell, column_at, is_basic}
use Rattle.fraction128.specs.Lines.{sum_value, IsPositive}
use Rattle.simplex_steps.specs.Law.{row_at, BasesDetermine}
use Rattle.simplex_steps.proofs.Spans.{span_same, only, span_only, not_same, coefficient_positive}
use Rattle.simplex_steps.proofs.Pivots.{entry_at, basic_at, Shape, Solves, basic_or_free}
use Rattle.simplex_steps.proofs.Moments.{IsFree, free_is, is_free, cell_is}
use Rattle.simplex_steps.proofs.Independent.{sum_positive, to_solves, basic_is}
use Rattle.simplex_steps.proofs.Short.{shape_of}

-- 1 at j, and 0 elsewhere
abbrev unit_at : ℕ → ℕ → Ratio
unit_at j i = cond (eqb j i) (whole (pos 1)) (whole (pos 0))

unit_positive : (j : ℕ) → IsPositive (unit_at j)
unit_positive j i = by (eqb j i)
  where
    by : (z : Bool) → 0 < (cond z (whole (pos 1)) (whole (pos 0))).denominator
    by true = omega arith
    by false = omega arith

number_unit : (j i : ℕ) → number (unit_at j i) ≡ only j i
number_unit j i = by (eqb j i)
  where
    by : (z : Bool) → number (cond z (whole (pos 1)) (whole (pos 0))) ≡ cond z rational_one rational_zero
    by true = sym rational_one-is
    by false = sym rational_zero-is

-- where what isn't basic is 1 at j and 0 elsewhere, a basic variable has the coefficient of j in its row
at_unit : (n : ℕ) (rows : List TableRow) (k j : ℕ) (X : ℕ → Rational) → Shape n rows → Solves n rows X → ((i : ℕ) → i < n → IsFree rows i → X i ≡ only j i) → k < length rows → j < n → IsFree rows j
    → X (basic_at rows k) ≡ entry_at rows k j
at_unit n rows k j X s solves units lk lj free =
    solves k lk
    ∙ span_same 0 n (λ i. rational_product (entry_at rows k i) (X i)) (λ i. rational_product (only j i) (entry_at rows k j)) (λ i l h. each i (omega (arith, h)) (basic_or_free rows i))
    ∙ span_only 0 n j (entry_at rows k j) (omega arith) (omega (arith, lj))
  where
    by_test : (i : ℕ) (z : Bool) → eqb j i ≡ z → rational_product (entry_at rows k i) (cond z rational_one rational_zero) ≡ rational_product (cond z rational_one rational_zero) (entry_at rows k j)
    by_test i true e =
        ap (λ q. rational_product (entry_at rows k q) rational_one) (sym (eqb-true j i e))
        ∙ solve rationals (entry_at rows k j ∷ []) (product (var 0) unit) (product unit (var 0)) refl
    by_test i false e = solve rationals (entry_at rows k i ∷ entry_at rows k j ∷ []) (product (var 0) nothing) (product nothing (var 1)) refl

    each : (i : ℕ) → i < n → ((m : ℕ) × (m < length rows) × (basic_at rows m ≡ i)) ⊎ IsFree rows i → rational_product (entry_at rows k i) (X i) ≡ rational_product (only j i) (entry_at rows k j)
    each i li (inl m) =
        let gone : entry_at rows k i ≡ rational_zero = ap (entry_at rows k) (sym m.2) ∙ s.separate m.0 k m.1 lk in
        let apart : eqb j i ≡ false = not_same j i (λ e. free m.0 m.1 (m.2 ∙ sym e)) in
        ap (λ x. rational_product x (X i)) gone
        ∙ solve rationals (X i ∷ entry_at rows k j ∷ []) (product nothing (var 0)) (product nothing (var 1)) refl
        ∙ ap (λ z. rational_product (cond z rational_one rational_zero) (entry_at rows k j)) (sym apart)
    each i li (inr f) = ap (rational_product (entry_at rows k i)) (units i li f) ∙ by_test i (eqb j i) refl

-- the coefficient of a basic variable is 0 in each row
none_basic : (n : ℕ) (rows : List TableRow) (k m j : ℕ) → Shape n rows → k < length rows → m < length rows → basic_at rows m ≡ j → entry_at rows k j ≡ rational_zero
none_basic n rows k m j s lk lm e = ap (entry_at rows k) (sym e) ∙ s.separate m k lm lk

cell_number : (n : ℕ) (rows : List TableRow) (k b j : ℕ) → Shape n rows → k < length rows → basic_at rows k ≡ b → number (cell rows b j) ≡ entry_at rows k j
cell_number n rows k b j s lk e = ap (λ i. number (cell rows i j)) (sym e) ∙ ap number (cell_is n rows k j s lk)

cell_positive : (n : ℕ) (rows : List TableRow) (k b j : ℕ) → Shape n rows → k < length rows → basic_at rows k ≡ b → 0 < (cell rows b j).denominator
cell_positive n rows k b j s lk e =
    subst (λ (x : Ratio). 0 < x.denominator) (sym (ap (λ i. cell rows i j) (sym e) ∙ cell_is n rows k j s lk)) (coefficient_positive (row_at rows k).entries j (s.positive k lk))

-- a variable that is basic has a place
placed : (rows : List TableRow) (b : ℕ) → is_basic rows b ≡ true → (k : ℕ) × (k < length rows) × (basic_at rows k ≡ b)
placed rows b e = by (basic_or_free rows b)
  where
    by : ((k : ℕ) × (k < length rows) × (basic_at rows k ≡ b)) ⊎ IsFree rows b → (k : ℕ) × (k < length rows) × (basic_at rows k ≡ b)
    by (inl m) = m
    by (inr free) = let z : true ≡ false = sym e ∙ free_is rows b free in absurd (cc)

pub bases_determine : BasesDetermine
bases_determine g h ig ih count sums basis identities_g identities_h independent b j lb lj basic =
    number_back (cell h.rows b j) (cell g.rows b j) (cell_positive n h.rows q.0 b j sh q.1 q.2) (cell_positive n g.rows p.0 b j sg p.1 p.2)
    (cell_number n h.rows q.0 b j sh q.1 q.2 ∙ sym (by_kind (basic_or_free g.rows j)) ∙ sym (cell_number n g.rows p.0 b j sg p.1 p.2))
  where
    n : ℕ
    n = length g.columns

    sg : Shape n g.rows
    sg = shape_of g ig

    sh : Shape n h.rows
    sh = subst (λ m. Shape m h.rows) count (shape_of h ih)

    p : (k : ℕ) × (k < length g.rows) × (basic_at g.rows k ≡ b)
    p = placed g.rows b basic

    q : (k : ℕ) × (k < length h.rows) × (basic_at h.rows k ≡ b)
    q = placed h.rows b (basis b lb ∙ basic)

    by_kind : ((m : ℕ) × (m < length g.rows) × (basic_at g.rows m ≡ j)) ⊎ IsFree g.rows j → entry_at g.rows p.0 j ≡ entry_at h.rows q.0 j
    by_kind (inl m) =
        let o = placed h.rows j (basis j lj ∙ ap (is_basic g.rows) (sym m.2) ∙ basic_is n g.rows m.0 sg m.1) in
        none_basic n g.rows p.0 m.0 j sg p.1 m.1 m.2 ∙ sym (none_basic n h.rows q.0 o.0 j sh q.1 o.1 o.2)
    by_kind (inr free) =
        let w = independent (unit_at j) (unit_positive j) in
        let x : ℕ → Ratio = λ i. sum_value w.0 (column_at g i).sum in
        let y : ℕ → Ratio = λ i. sum_value w.0 (column_at h i).sum in
        let fx : IsPositive x = λ i. sum_positive w.0 (column_at g i).sum w.1 in
        let fy : IsPositive y = λ i. sum_positive w.0 (column_at h i).sum w.1 in
        let units : (i : ℕ) → i < n → IsFree g.rows i → number (x i) ≡ only j i = λ i li f. number_eq (x i) (unit_at j i) (fx i) (unit_positive j i) (w.2 i li (free_is g.rows i f)) ∙ number_unit j i in
        let same : (i : ℕ) → number (y i) ≡ number (x i) = λ i. ap (λ ps. number (sum_value w.0 ps)) (sums i) in
        let free_h : (i : ℕ) → i < n → IsFree h.rows i → IsFree g.rows i = λ i li f. is_free n g.rows i sg (sym (basis i li) ∙ free_is h.rows i f) in
        let at_g : number (x (basic_at g.rows p.0)) ≡ entry_at g.rows p.0 j = at_unit n g.rows p.0 j (λ i. number (x i)) sg (to_solves n g.rows x sg fx (identities_g w.0 w.1)) units p.1 lj free in
        let at_h : number (y (basic_at h.rows q.0)) ≡ entry_at h.rows q.0 j =
        at_unit n h.rows q.0 j (λ i. number (y i)) sh (to_solves n h.rows y sh fy (identities_h w.0 w.1)) (λ i li f. same i ∙ units i li (free_h i li f)) q.1 lj
        (is_free n h.rows j sh (basis j lj ∙ free_is g.rows j free)) in
        sym at_g ∙ ap (λ i. number (x i)) (p.2 ∙ sym q.2) ∙ sym (same (basic_at h.rows q.0)) ∙ at_h
