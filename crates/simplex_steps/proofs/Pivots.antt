-- A pivot keeps the shape of rows and their solutions.
use Rattle.std.proofs.Common.{◌≡◌, ◌≢◌, ℕ, zero, suc, ◌<◌, ◌⊎◌, inl, inr, pos, negsuc, sym, ap, ap₂, ◌∙◌, subst, refl, arith, List, [], ◌∷◌, length, Bool, true, false, cond, eqb, eqb-true, eq-eqb, Some, None}
use Rattle.std.proofs.lemmas.List.{get_or-map, length-map}
use Rattle.fraction128.specs.declared.ratio.Ratio.{Ratio}
use Rattle.fraction128.specs.Number.{whole}
use Rattle.fraction128.specs.Listed.{negation_of, reciprocal_of, fused}
use Rattle.fraction128.proofs.RingEquations.{var, sum, product, minus, nothing, unit, solve}
use Rattle.fraction128.proofs.RationalRing.{Rational, number, number_neg, rational_sum, rational_product, rational_negation, rational_zero, rational_one, rational_zero-is, rational_one-is, rationals}
use Rattle.fraction128.proofs.ExactSteps.{product_positive, number_product, fused_positive, number_fused, reciprocal_positive, number_reciprocal}
use Rattle.fraction128.specs.declared.Entry.{Entry}
use Rattle.fraction128.specs.declared.TableRow.{TableRow}
use Rattle.fraction128.specs.Grid.{coefficient, row_of, entries_of, cell, factor, form_entry, scaled_entry, pivoted_entry, entries_from, pivoted_rows}
use Rattle.fraction128.proofs.RowValue.{ArePositive}
use Rattle.simplex_steps.specs.Law.{row_at, no_row, AreFrom}
use Rattle.simplex_steps.proofs.Spans.{span, span_same, span_sum, span_product, only, span_only, not_same, differs, listed_positive, listed_from, number_listed, coefficient_positive}

-- the coefficient of a variable in the row at a place
abbrev pub entry_at : List TableRow → ℕ → ℕ → Rational
entry_at rows k j = number (coefficient (row_at rows k).entries j)

abbrev pub basic_at : List TableRow → ℕ → ℕ
basic_at rows k = (row_at rows k).basic

pub record Shape (n : ℕ) (rows : List TableRow) : Type 0 where
  pub distinct : (j k : ℕ) → j < length rows → k < length rows → basic_at rows j ≡ basic_at rows k → j ≡ k
  pub basics : (k : ℕ) → k < length rows → basic_at rows k < n
  pub entries : (k : ℕ) → k < length rows → AreFrom 0 n (row_at rows k).entries
  pub positive : (k : ℕ) → k < length rows → ArePositive (row_at rows k).entries
  pub separate : (j k : ℕ) → j < length rows → k < length rows → entry_at rows k (basic_at rows j) ≡ rational_zero

-- the numbers meet the rows
abbrev pub Solves : ℕ → List TableRow → (ℕ → Rational) → Type 0
Solves n rows U = (k : ℕ) → k < length rows → U (basic_at rows k) ≡ span 0 n (λ j. rational_product (entry_at rows k j) (U j))

-- the row at the place p may be pivoted with c
pub record IsPivot (n : ℕ) (rows : List TableRow) (p c : ℕ) : Type 0 where
  pub in_rows : p < length rows
  pub known : c < n
  pub free : (k : ℕ) → k < length rows → basic_at rows k ≢ c
  pub some : (coefficient (row_at rows p).entries c).numerator ≢ pos 0

-- ---- the row of a basic variable

row_found : (rows : List TableRow) (k : ℕ) → k < length rows → ((j : ℕ) → j < k → basic_at rows j ≢ basic_at rows k) → row_of rows (basic_at rows k) ≡ Some (row_at rows k)
row_found [] k lt h = absurd (omega (arith, lt))
row_found (r ∷ rs) zero lt h = let e : eqb r.basic r.basic ≡ true = eq-eqb r.basic r.basic refl in rw e refl
row_found (r ∷ rs) (suc k) lt h =
    let e : eqb r.basic (basic_at rs k) ≡ false = not_same r.basic (basic_at rs k) (h zero (omega arith)) in
    rw e (row_found rs k (omega (arith, lt)) (λ j l. h (suc j) (omega (arith, l))))

pub row_is : (n : ℕ) (rows : List TableRow) (k : ℕ) → Shape n rows → k < length rows → row_of rows (basic_at rows k) ≡ Some (row_at rows k)
row_is n rows k s lt = row_found rows k lt (λ j l e. let z : j ≡ k = s.distinct j k (omega (arith, l, lt)) lt e in absurd (omega (arith, z, l)))

pub row_lacks : (rows : List TableRow) (j : ℕ) → ((k : ℕ) → k < length rows → basic_at rows k ≢ j) → row_of rows j ≡ None
row_lacks [] j h = refl
row_lacks (r ∷ rs) j h =
    let e : eqb r.basic j ≡ false = not_same r.basic j (h zero (omega arith)) in
    rw e (row_lacks rs j (λ k lt. h (suc k) (omega (arith, lt))))

pub basic_or_free : (rows : List TableRow) (j : ℕ) → ((k : ℕ) × (k < length rows) × (basic_at rows k ≡ j)) ⊎ ((k : ℕ) → k < length rows → basic_at rows k ≢ j)
basic_or_free [] j = inr (λ k lt. absurd (omega (arith, lt)))
basic_or_free (r ∷ rs) j = by_rest (basic_or_free rs j) (eqb r.basic j) refl
  where
    by_rest : ((k : ℕ) × (k < length rs) × (basic_at rs k ≡ j)) ⊎ ((k : ℕ) → k < length rs → basic_at rs k ≢ j) → (z : Bool) → eqb r.basic j ≡ z
        → ((k : ℕ) × (k < length (r ∷ rs)) × (basic_at (r ∷ rs) k ≡ j)) ⊎ ((k : ℕ) → k < length (r ∷ rs) → basic_at (r ∷ rs) k ≢ j)
    by_rest h true e = inl (zero, omega arith, eqb-true r.basic j e)
    by_rest (inl h) false e = inl (suc h.0, omega (arith, h.1), h.2)
    by_rest (inr h) false e = inr at_place
      where
        at_place : (k : ℕ) → k < length (r ∷ rs) → basic_at (r ∷ rs) k ≢ j
        at_place zero lt w = differs r.basic j e w
        at_place (suc k) lt w = h k (omega (arith, lt)) w

-- ---- one pivot

minus_one : number (whole (negsuc 0)) ≡ rational_negation rational_one
minus_one = number_neg (whole (pos 1)) (omega arith) ∙ ap rational_negation (sym rational_one-is)

-- facts of one pivot, with b the basic variable of the row
record Facts (n : ℕ) (rows : List TableRow) (p c : ℕ) : Type 0 where
  form_positive : (j : ℕ) → 0 < (form_entry rows (basic_at rows p) j).denominator
  factor_positive : 0 < (factor rows (basic_at rows p) c).denominator
  form_number : (j : ℕ) → number (form_entry rows (basic_at rows p) j) ≡ rational_sum (entry_at rows p j) (rational_negation (only (basic_at rows p) j))
  inverse : rational_product (entry_at rows p c) (number (factor rows (basic_at rows p) c)) ≡ rational_negation rational_one

facts : (n : ℕ) (rows : List TableRow) (p c : ℕ) → Shape n rows → IsPivot n rows p c → Facts n rows p c
facts n rows p c s v =
    record {
      form_positive = λ j. positive_at j (eqb j b);
      factor_positive = subst (λ (z : Ratio). 0 < (negation_of (reciprocal_of z)).denominator) (sym (cell_is c)) (reciprocal_positive (coefficient es c) v.some);
      form_number = λ j. form_at j (eqb j b) refl;
      inverse =
          ap (λ z. rational_product (number (coefficient es c)) (number (negation_of (reciprocal_of z)))) (cell_is c)
          ∙ ap (rational_product (number (coefficient es c))) (number_neg (reciprocal_of (coefficient es c)) (reciprocal_positive (coefficient es c) v.some))
          ∙ solve rationals (number (coefficient es c) ∷ number (reciprocal_of (coefficient es c)) ∷ []) (product (var 0) (minus (var 1))) (minus (product (var 0) (var 1))) refl
          ∙ ap rational_negation (number_reciprocal (coefficient es c) (coefficient_positive es c (s.positive p v.in_rows)) v.some);
    }
  where
    b : ℕ
    b = basic_at rows p

    es : List Entry
    es = (row_at rows p).entries

    cell_is : (j : ℕ) → cell rows b j ≡ coefficient es j
    cell_is j = ap (λ r. coefficient (entries_of r) j) (row_is n rows p s v.in_rows)

    positive_at : (j : ℕ) (z : Bool) → 0 < (cond z (whole (negsuc 0)) (cell rows b j)).denominator
    positive_at j true = omega arith
    positive_at j false = subst (λ (x : Ratio). 0 < x.denominator) (sym (cell_is j)) (coefficient_positive es j (s.positive p v.in_rows))

    form_at : (j : ℕ) (z : Bool) → eqb j b ≡ z → number (cond z (whole (negsuc 0)) (cell rows b j)) ≡ rational_sum (entry_at rows p j) (rational_negation (only b j))
    form_at j true e =
        let same : j ≡ b = eqb-true j b e in
        minus_one ∙ solve rationals [] (minus unit) (sum nothing (minus unit)) refl
        ∙ ap₂ (λ x z. rational_sum x (rational_negation (cond z rational_one rational_zero)))
        (sym (s.separate p p v.in_rows v.in_rows) ∙ ap (λ i. number (coefficient es i)) (sym same)) (sym (eq-eqb b j (sym same)))
    form_at j false e =
        ap number (cell_is j) ∙ solve rationals (number (coefficient es j) ∷ []) (var 0) (sum (var 0) (minus nothing)) refl
        ∙ ap (λ z. rational_sum (entry_at rows p j) (rational_negation (cond z rational_one rational_zero))) (sym (not_same b j (λ w. differs j b e (sym w))))

scaled_positive : (n : ℕ) (rows : List TableRow) (p c : ℕ) → Facts n rows p c → (j : ℕ) → 0 < (scaled_entry rows (basic_at rows p) c j).denominator
scaled_positive n rows p c f j = product_positive (form_entry rows (basic_at rows p) j) (factor rows (basic_at rows p) c) (f.form_positive j) f.factor_positive

scaled_number : (n : ℕ) (rows : List TableRow) (p c : ℕ) → Facts n rows p c → (j : ℕ)
    → number (scaled_entry rows (basic_at rows p) c j) ≡ rational_product (number (factor rows (basic_at rows p) c)) (rational_sum (entry_at rows p j) (rational_negation (only (basic_at rows p) j)))
scaled_number n rows p c f j =
    number_product (form_entry rows (basic_at rows p) j) (factor rows (basic_at rows p) c) (f.form_positive j) f.factor_positive
    ∙ ap (λ x. rational_product x (number (factor rows (basic_at rows p) c))) (f.form_number j)
    ∙ solve rationals (rational_sum (entry_at rows p j) (rational_negation (only (basic_at rows p) j)) ∷ number (factor rows (basic_at rows p) c) ∷ []) (product (var 0) (var 1)) (product (var 1) (var 0)) refl

-- c has the coefficient -1 in the scaled form
scaled_entering : (n : ℕ) (rows : List TableRow) (p c : ℕ) → IsPivot n rows p c → Facts n rows p c → number (scaled_entry rows (basic_at rows p) c c) ≡ rational_negation rational_one
scaled_entering n rows p c v f =
    scaled_number n rows p c f c
    ∙ ap (λ z. rational_product (number (factor rows (basic_at rows p) c)) (rational_sum (entry_at rows p c) (rational_negation (cond z rational_one rational_zero)))) (not_same (basic_at rows p) c (v.free p v.in_rows))
    ∙ solve rationals (number (factor rows (basic_at rows p) c) ∷ entry_at rows p c ∷ []) (product (var 0) (sum (var 1) (minus nothing))) (product (var 1) (var 0)) refl
    ∙ f.inverse

-- another basic variable has the coefficient 0 in it
scaled_basic : (n : ℕ) (rows : List TableRow) (p c m : ℕ) → Shape n rows → IsPivot n rows p c → Facts n rows p c → m < length rows → basic_at rows m ≢ basic_at rows p
    → number (scaled_entry rows (basic_at rows p) c (basic_at rows m)) ≡ rational_zero
scaled_basic n rows p c m s v f lt ne =
    scaled_number n rows p c f (basic_at rows m)
    ∙ ap₂ (λ x z. rational_product (number (factor rows (basic_at rows p) c)) (rational_sum x (rational_negation (cond z rational_one rational_zero)))) (s.separate m p lt v.in_rows)
    (not_same (basic_at rows p) (basic_at rows m) (λ w. ne (sym w)))
    ∙ solve rationals (number (factor rows (basic_at rows p) c) ∷ []) (product (var 0) (sum nothing (minus nothing))) nothing refl

-- the scaled form is 0 on the solutions
scaled_solved : (n : ℕ) (rows : List TableRow) (p c : ℕ) (U : ℕ → Rational) → Shape n rows → IsPivot n rows p c → Facts n rows p c → Solves n rows U
    → span 0 n (λ j. rational_product (number (scaled_entry rows (basic_at rows p) c j)) (U j)) ≡ rational_zero
scaled_solved n rows p c U s v f solves =
    let b = basic_at rows p in
    let T = number (factor rows b c) in
    span_same 0 n (λ j. rational_product (number (scaled_entry rows b c j)) (U j)) (λ j. rational_product T (rational_sum (rational_product (entry_at rows p j) (U j)) (rational_product (only b j) (rational_negation (U b)))))
    (λ j l h. ap (λ x. rational_product x (U j)) (scaled_number n rows p c f j) ∙ by_test j (eqb b j) refl)
    ∙ span_product 0 n T (λ j. rational_sum (rational_product (entry_at rows p j) (U j)) (rational_product (only b j) (rational_negation (U b))))
    ∙ ap (rational_product T)
    (span_sum 0 n (λ j. rational_product (entry_at rows p j) (U j)) (λ j. rational_product (only b j) (rational_negation (U b)))
    ∙ ap₂ rational_sum (sym (solves p v.in_rows)) (span_only 0 n b (rational_negation (U b)) (omega arith) (let k = s.basics p v.in_rows in omega (arith, k))))
    ∙ solve rationals (T ∷ U b ∷ []) (product (var 0) (sum (var 1) (minus (var 1)))) nothing refl
  where
    by_test : (j : ℕ) (z : Bool) → eqb (basic_at rows p) j ≡ z
        → rational_product (rational_product (number (factor rows (basic_at rows p) c)) (rational_sum (entry_at rows p j) (rational_negation (cond z rational_one rational_zero)))) (U j)
        ≡ rational_product (number (factor rows (basic_at rows p) c)) (rational_sum (rational_product (entry_at rows p j) (U j)) (rational_product (cond z rational_one rational_zero) (rational_negation (U (basic_at rows p)))))
    by_test j true e =
        solve rationals (number (factor rows (basic_at rows p) c) ∷ entry_at rows p j ∷ U j ∷ [])
        (product (product (var 0) (sum (var 1) (minus unit))) (var 2)) (product (var 0) (sum (product (var 1) (var 2)) (product unit (minus (var 2))))) refl
        ∙ ap (λ i. rational_product (number (factor rows (basic_at rows p) c)) (rational_sum (rational_product (entry_at rows p j) (U j)) (rational_product rational_one (rational_negation (U i))))) (sym (eqb-true (basic_at rows p) j e))
    by_test j false e =
        solve rationals (number (factor rows (basic_at rows p) c) ∷ entry_at rows p j ∷ U j ∷ U (basic_at rows p) ∷ [])
        (product (product (var 0) (sum (var 1) (minus nothing))) (var 2)) (product (var 0) (sum (product (var 1) (var 2)) (product nothing (minus (var 3))))) refl

-- ---- the rows after it

pivoted : ℕ → List TableRow → ℕ → ℕ → TableRow → TableRow
pivoted n rows b c r = record { basic = cond (eqb r.basic b) c r.basic; entries = entries_from 0 n (pivoted_entry rows b c r) }

row_after : (n : ℕ) (rows : List TableRow) (b c k : ℕ) → k < length rows → row_at (pivoted_rows n rows b c) k ≡ record { basic = cond (eqb (basic_at rows k) b) c (basic_at rows k); entries = entries_from 0 n (pivoted_entry rows b c (row_at rows k)) }
unfolding pivoted
row_after n rows b c k lt = get_or-map (pivoted n rows b c) rows k no_row no_row lt

pub length_after : (n : ℕ) (rows : List TableRow) (b c : ℕ) → length (pivoted_rows n rows b c) ≡ length rows
unfolding pivoted
length_after n rows b c = length-map rows (pivoted n rows b c)

entry_positive : (n : ℕ) (rows : List TableRow) (p c k : ℕ) → Shape n rows → Facts n rows p c → k < length rows → (j : ℕ) → 0 < (pivoted_entry rows (basic_at rows p) c (row_at rows k) j).denominator
entry_positive n rows p c k s f lt j = by_row (eqb (basic_at rows k) (basic_at rows p)) (eqb j c)
  where
    by_row : (z w : Bool)
        → 0 < (cond z (cond w (whole (pos 0)) (scaled_entry rows (basic_at rows p) c j)) (fused (coefficient (row_at rows k).entries j) (coefficient (row_at rows k).entries c) (scaled_entry rows (basic_at rows p) c j))).denominator
    by_row true true = omega arith
    by_row true false = scaled_positive n rows p c f j
    by_row false w =
        fused_positive (coefficient (row_at rows k).entries j) (coefficient (row_at rows k).entries c) (scaled_entry rows (basic_at rows p) c j)
        (coefficient_positive (row_at rows k).entries j (s.positive k lt)) (coefficient_positive (row_at rows k).entries c (s.positive k lt)) (scaled_positive n rows p c f j)

entry_after : (n : ℕ) (rows : List TableRow) (p c k j : ℕ) → Shape n rows → Facts n rows p c → k < length rows → j < n
    → entry_at (pivoted_rows n rows (basic_at rows p) c) k j ≡ number (pivoted_entry rows (basic_at rows p) c (row_at rows k) j)
entry_after n rows p c k j s f lt h =
    ap (λ (r : TableRow). number (coefficient r.entries j)) (row_after n rows (basic_at rows p) c k lt)
    ∙ number_listed 0 n (pivoted_entry rows (basic_at rows p) c (row_at rows k)) (entry_positive n rows p c k s f lt) j (omega arith) (omega (arith, h))

basic_after : (n : ℕ) (rows : List TableRow) (b c k : ℕ) → k < length rows → basic_at (pivoted_rows n rows b c) k ≡ cond (eqb (basic_at rows k) b) c (basic_at rows k)
basic_after n rows b c k lt = ap (λ (r : TableRow). r.basic) (row_after n rows b c k lt)

-- the entering variable has the place of the one that leaves, and the others stay
pub basic_entered : (n : ℕ) (rows : List TableRow) (p c : ℕ) → p < length rows → basic_at (pivoted_rows n rows (basic_at rows p) c) p ≡ c
basic_entered n rows p c lt = basic_after n rows (basic_at rows p) c p lt ∙ ap (λ z. cond z c (basic_at rows p)) (eq-eqb (basic_at rows p) (basic_at rows p) refl)

pub basic_stays : (n : ℕ) (rows : List TableRow) (p c k : ℕ) → k < length rows → basic_at rows k ≢ basic_at rows p → basic_at (pivoted_rows n rows (basic_at rows p) c) k ≡ basic_at rows k
basic_stays n rows p c k lt ne = basic_after n rows (basic_at rows p) c k lt ∙ ap (λ z. cond z c (basic_at rows k)) (not_same (basic_at rows k) (basic_at rows p) ne)

-- the entry of a row's pivot, by its two cases
number_solved : (n : ℕ) (rows : List TableRow) (p c k j : ℕ) → IsPivot n rows p c → Facts n rows p c → basic_at rows k ≡ basic_at rows p
    → number (pivoted_entry rows (basic_at rows p) c (row_at rows k) j) ≡ rational_sum (number (scaled_entry rows (basic_at rows p) c j)) (only c j)
number_solved n rows p c k j v f same =
    ap (λ z. number (cond z (cond (eqb j c) (whole (pos 0)) (scaled_entry rows (basic_at rows p) c j)) (fused (coefficient (row_at rows k).entries j) (coefficient (row_at rows k).entries c) (scaled_entry rows (basic_at rows p) c j))))
    (eq-eqb (basic_at rows k) (basic_at rows p) same)
    ∙ by_test (eqb j c) refl
  where
    by_test : (z : Bool) → eqb j c ≡ z → number (cond z (whole (pos 0)) (scaled_entry rows (basic_at rows p) c j)) ≡ rational_sum (number (scaled_entry rows (basic_at rows p) c j)) (only c j)
    by_test true e =
        let is : j ≡ c = eqb-true j c e in
        sym rational_zero-is ∙ solve rationals [] nothing (sum (minus unit) unit) refl
        ∙ ap₂ (λ x z. rational_sum x (cond z rational_one rational_zero)) (sym (scaled_entering n rows p c v f) ∙ ap (λ i. number (scaled_entry rows (basic_at rows p) c i)) (sym is)) (sym (eq-eqb c j (sym is)))
    by_test false e =
        solve rationals (number (scaled_entry rows (basic_at rows p) c j) ∷ []) (var 0) (sum (var 0) nothing) refl
        ∙ ap (λ z. rational_sum (number (scaled_entry rows (basic_at rows p) c j)) (cond z rational_one rational_zero)) (sym (not_same c j (λ w. differs j c e (sym w))))

number_other : (n : ℕ) (rows : List TableRow) (p c k j : ℕ) → Shape n rows → Facts n rows p c → k < length rows → basic_at rows k ≢ basic_at rows p
    → number (pivoted_entry rows (basic_at rows p) c (row_at rows k) j) ≡ rational_sum (entry_at rows k j) (rational_product (entry_at rows k c) (number (scaled_entry rows (basic_at rows p) c j)))
number_other n rows p c k j s f lt ne =
    ap (λ z. number (cond z (cond (eqb j c) (whole (pos 0)) (scaled_entry rows (basic_at rows p) c j)) (fused (coefficient (row_at rows k).entries j) (coefficient (row_at rows k).entries c) (scaled_entry rows (basic_at rows p) c j))))
    (not_same (basic_at rows k) (basic_at rows p) ne)
    ∙ number_fused (coefficient (row_at rows k).entries j) (coefficient (row_at rows k).entries c) (scaled_entry rows (basic_at rows p) c j)
    (coefficient_positive (row_at rows k).entries j (s.positive k lt)) (coefficient_positive (row_at rows k).entries c (s.positive k lt)) (scaled_positive n rows p c f j)

same_or_not : (i j : ℕ) → (i ≡ j) ⊎ (i ≢ j)
same_or_not i j = by_test (eqb i j) refl
  where
    by_test : (z : Bool) → eqb i j ≡ z → (i ≡ j) ⊎ (i ≢ j)
    by_test true e = inl (eqb-true i j e)
    by_test false e = inr (differs i j e)

pub shape_after : (n : ℕ) (rows : List TableRow) (p c : ℕ) → Shape n rows → IsPivot n rows p c → Shape n (pivoted_rows n rows (basic_at rows p) c)
shape_after n rows p c s v =
    record {
      distinct = λ j k lj lk e. distinct_at j k (len lj) (len lk) (same_or_not (basic_at rows j) b) (same_or_not (basic_at rows k) b) e;
      basics = λ k lk. basics_at k (len lk) (same_or_not (basic_at rows k) b);
      entries = λ k lk. subst (λ (r : TableRow). AreFrom 0 n r.entries) (sym (row_after n rows b c k (len lk))) (listed_from 0 n n (pivoted_entry rows b c (row_at rows k)) (omega arith));
      positive = λ k lk. subst (λ (r : TableRow). ArePositive r.entries) (sym (row_after n rows b c k (len lk))) (listed_positive 0 n (pivoted_entry rows b c (row_at rows k)) (entry_positive n rows p c k s f (len lk)));
      separate = λ j k lj lk. separate_at j k (len lj) (len lk) (same_or_not (basic_at rows j) b) (same_or_not (basic_at rows k) b);
    }
  where
    b : ℕ
    b = basic_at rows p

    f : Facts n rows p c
    f = facts n rows p c s v

    len : {k : ℕ} → k < length (pivoted_rows n rows b c) → k < length rows
    len {k} h = subst (λ m. k < m) (length_after n rows b c) h

    to_place : (k : ℕ) → k < length rows → basic_at rows k ≡ b → k ≡ p
    to_place k lk e = s.distinct k p lk v.in_rows e

    entered : (k : ℕ) → k < length rows → basic_at rows k ≡ b → basic_at (pivoted_rows n rows b c) k ≡ c
    entered k lk e = basic_after n rows b c k lk ∙ ap (λ z. cond z c (basic_at rows k)) (eq-eqb (basic_at rows k) b e)

    distinct_at : (j k : ℕ) → j < length rows → k < length rows → (basic_at rows j ≡ b) ⊎ (basic_at rows j ≢ b) → (basic_at rows k ≡ b) ⊎ (basic_at rows k ≢ b)
        → basic_at (pivoted_rows n rows b c) j ≡ basic_at (pivoted_rows n rows b c) k → j ≡ k
    distinct_at j k lj lk (inl x) (inl y) e = to_place j lj x ∙ sym (to_place k lk y)
    distinct_at j k lj lk (inl x) (inr y) e = absurd (v.free k lk (sym (basic_stays n rows p c k lk y) ∙ sym e ∙ entered j lj x))
    distinct_at j k lj lk (inr x) (inl y) e = absurd (v.free j lj (sym (basic_stays n rows p c j lj x) ∙ e ∙ entered k lk y))
    distinct_at j k lj lk (inr x) (inr y) e = s.distinct j k lj lk (sym (basic_stays n rows p c j lj x) ∙ e ∙ basic_stays n rows p c k lk y)

    basics_at : (k : ℕ) → k < length rows → (basic_at rows k ≡ b) ⊎ (basic_at rows k ≢ b) → basic_at (pivoted_rows n rows b c) k < n
    basics_at k lk (inl x) = subst (λ i. i < n) (sym (entered k lk x)) v.known
    basics_at k lk (inr x) = subst (λ i. i < n) (sym (basic_stays n rows p c k lk x)) (s.basics k lk)

    at_variable : (i k : ℕ) → i < n → k < length rows → (basic_at rows k ≡ b) ⊎ (basic_at rows k ≢ b) → (i ≡ c) ⊎ ((m : ℕ) × (m < length rows) × (basic_at rows m ≡ i) × (basic_at rows m ≢ b))
        → entry_at (pivoted_rows n rows b c) k i ≡ rational_zero
    at_variable i k li lk (inl y) (inl x) =
        entry_after n rows p c k i s f lk li ∙ number_solved n rows p c k i v f y
        ∙ ap₂ (λ w z. rational_sum w (cond z rational_one rational_zero)) (ap (λ q. number (scaled_entry rows b c q)) x ∙ scaled_entering n rows p c v f) (eq-eqb c i (sym x))
        ∙ solve rationals [] (sum (minus unit) unit) nothing refl
    at_variable i k li lk (inl y) (inr m) =
        entry_after n rows p c k i s f lk li ∙ number_solved n rows p c k i v f y
        ∙ ap₂ (λ w z. rational_sum w (cond z rational_one rational_zero)) (ap (λ q. number (scaled_entry rows b c q)) (sym m.2) ∙ scaled_basic n rows p c m.0 s v f m.1 m.3)
        (not_same c i (λ w. v.free m.0 m.1 (m.2 ∙ sym w)))
        ∙ solve rationals [] (sum nothing nothing) nothing refl
    at_variable i k li lk (inr y) (inl x) =
        entry_after n rows p c k i s f lk li ∙ number_other n rows p c k i s f lk y
        ∙ ap₂ (λ q w. rational_sum (entry_at rows k q) (rational_product (entry_at rows k c) w)) x (ap (λ q. number (scaled_entry rows b c q)) x ∙ scaled_entering n rows p c v f)
        ∙ solve rationals (entry_at rows k c ∷ []) (sum (var 0) (product (var 0) (minus unit))) nothing refl
    at_variable i k li lk (inr y) (inr m) =
        entry_after n rows p c k i s f lk li ∙ number_other n rows p c k i s f lk y
        ∙ ap₂ (λ x w. rational_sum x (rational_product (entry_at rows k c) w)) (ap (λ q. entry_at rows k q) (sym m.2) ∙ s.separate m.0 k m.1 lk) (ap (λ q. number (scaled_entry rows b c q)) (sym m.2) ∙ scaled_basic n rows p c m.0 s v f m.1 m.3)
        ∙ solve rationals (entry_at rows k c ∷ []) (sum nothing (product (var 0) nothing)) nothing refl

    separate_at : (j k : ℕ) → j < length rows → k < length rows → (basic_at rows j ≡ b) ⊎ (basic_at rows j ≢ b) → (basic_at rows k ≡ b) ⊎ (basic_at rows k ≢ b)
        → entry_at (pivoted_rows n rows b c) k (basic_at (pivoted_rows n rows b c) j) ≡ rational_zero
    separate_at j k lj lk (inl x) y = ap (entry_at (pivoted_rows n rows b c) k) (entered j lj x) ∙ at_variable c k v.known lk y (inl refl)
    separate_at j k lj lk (inr x) y =
        ap (entry_at (pivoted_rows n rows b c) k) (basic_stays n rows p c j lj x) ∙ at_variable (basic_at rows j) k (s.basics j lj) lk y (inr (j, lj, refl, x))

pick : (c : ℕ) (U : ℕ → Rational) (j : ℕ) → rational_product (only c j) (U j) ≡ rational_product (only c j) (U c)
pick c U j = by_test (eqb c j) refl
  where
    by_test : (z : Bool) → eqb c j ≡ z → rational_product (cond z rational_one rational_zero) (U j) ≡ rational_product (cond z rational_one rational_zero) (U c)
    by_test true e = ap (λ i. rational_product rational_one (U i)) (sym (eqb-true c j e))
    by_test false e = solve rationals (U j ∷ U c ∷ []) (product nothing (var 0)) (product nothing (var 1)) refl

-- the solutions stay solutions
pub solves_after : (n : ℕ) (rows : List TableRow) (p c : ℕ) (U : ℕ → Rational) → Shape n rows → IsPivot n rows p c → Solves n rows U → Solves n (pivoted_rows n rows (basic_at rows p) c) U
solves_after n rows p c U s v solves k lk' = by_row (same_or_not (basic_at rows k) b)
  where
    b : ℕ
    b = basic_at rows p

    f : Facts n rows p c
    f = facts n rows p c s v

    lk : k < length rows
    lk = subst (λ m. k < m) (length_after n rows b c) lk'

    zero_form : span 0 n (λ j. rational_product (number (scaled_entry rows b c j)) (U j)) ≡ rational_zero
    zero_form = scaled_solved n rows p c U s v f solves

    by_row : (basic_at rows k ≡ b) ⊎ (basic_at rows k ≢ b) → U (basic_at (pivoted_rows n rows b c) k) ≡ span 0 n (λ j. rational_product (entry_at (pivoted_rows n rows b c) k j) (U j))
    by_row (inl x) =
        ap U (basic_after n rows b c k lk ∙ ap (λ z. cond z c (basic_at rows k)) (eq-eqb (basic_at rows k) b x))
        ∙ solve rationals (U c ∷ []) (var 0) (sum nothing (var 0)) refl
        ∙ ap₂ rational_sum (sym zero_form) (sym (span_only 0 n c (U c) (omega arith) (let q = v.known in omega (arith, q))))
        ∙ sym (span_sum 0 n (λ j. rational_product (number (scaled_entry rows b c j)) (U j)) (λ j. rational_product (only c j) (U c)))
        ∙ span_same 0 n (λ j. rational_sum (rational_product (number (scaled_entry rows b c j)) (U j)) (rational_product (only c j) (U c))) (λ j. rational_product (entry_at (pivoted_rows n rows b c) k j) (U j))
        (λ j l h. ap (rational_sum (rational_product (number (scaled_entry rows b c j)) (U j))) (sym (pick c U j))
        ∙ solve rationals (number (scaled_entry rows b c j) ∷ only c j ∷ U j ∷ []) (sum (product (var 0) (var 2)) (product (var 1) (var 2))) (product (sum (var 0) (var 1)) (var 2)) refl
        ∙ ap (λ y. rational_product y (U j)) (sym (entry_after n rows p c k j s f lk (omega (arith, h)) ∙ number_solved n rows p c k j v f x)))
    by_row (inr x) =
        ap U (basic_stays n rows p c k lk x) ∙ solves k lk
        ∙ solve rationals (span 0 n (λ j. rational_product (entry_at rows k j) (U j)) ∷ entry_at rows k c ∷ []) (var 0) (sum (var 0) (product (var 1) nothing)) refl
        ∙ ap (λ w. rational_sum (span 0 n (λ j. rational_product (entry_at rows k j) (U j))) (rational_product (entry_at rows k c) w)) (sym zero_form)
        ∙ ap (rational_sum (span 0 n (λ j. rational_product (entry_at rows k j) (U j)))) (sym (span_product 0 n (entry_at rows k c) (λ j. rational_product (number (scaled_entry rows b c j)) (U j))))
        ∙ sym (span_sum 0 n (λ j. rational_product (entry_at rows k j) (U j)) (λ j. rational_product (entry_at rows k c) (rational_product (number (scaled_entry rows b c j)) (U j))))
        ∙ span_same 0 n (λ j. rational_sum (rational_product (entry_at rows k j) (U j)) (rational_product (entry_at rows k c) (rational_product (number (scaled_entry rows b c j)) (U j)))) (λ j. rational_product (entry_at (pivoted_rows n rows b c) k j) (U j))
        (λ j l h. solve rationals (entry_at rows k j ∷ entry_at rows k c ∷ number (scaled_entry rows b c j) ∷ U j ∷ []) (sum (product (var 0) (var 3)) (product (var 1) (product (var 2) (var 3)))) (product (sum (var 0) (product (var 1) (var 2))) (var 3)) refl
        ∙ ap (λ y. rational_product y (U j)) (sym (entry_after n rows p c k j s f lk (omega (arith, h)) ∙ number_other n rows p c k j s f lk x)))

-- what solves the rows after it solved those before
pub solves_before : (n : ℕ) (rows : List TableRow) (p c : ℕ) (U : ℕ → Rational) → Shape n rows → IsPivot n rows p c → Solves n (pivoted_rows n rows (basic_at rows p) c) U → Solves n rows U
solves_before n rows p c U s v solves k lk = by_row (same_or_not (basic_at rows k) b)
  where
    b : ℕ
    b = basic_at rows p

    f : Facts n rows p c
    f = facts n rows p c s v

    T : Rational
    T = number (factor rows b c)

    after : {m : ℕ} → m < length rows → m < length (pivoted_rows n rows b c)
    after {m} h = subst (λ q. m < q) (sym (length_after n rows b c)) h

    scaled : Rational
    scaled = span 0 n (λ j. rational_product (number (scaled_entry rows b c j)) (U j))

    -- the row of c after it: the scaled form and c itself
    entered : U c ≡ rational_sum scaled (U c)
    entered =
        ap U (sym (basic_entered n rows p c v.in_rows)) ∙ solves p (after v.in_rows)
        ∙ span_same 0 n (λ j. rational_product (entry_at (pivoted_rows n rows b c) p j) (U j)) (λ j. rational_sum (rational_product (number (scaled_entry rows b c j)) (U j)) (rational_product (only c j) (U c)))
        (λ j l h. ap (λ y. rational_product y (U j)) (entry_after n rows p c p j s f v.in_rows (omega (arith, h)) ∙ number_solved n rows p c p j v f refl)
        ∙ solve rationals (number (scaled_entry rows b c j) ∷ only c j ∷ U j ∷ []) (product (sum (var 0) (var 1)) (var 2)) (sum (product (var 0) (var 2)) (product (var 1) (var 2))) refl
        ∙ ap (rational_sum (rational_product (number (scaled_entry rows b c j)) (U j))) (pick c U j))
        ∙ span_sum 0 n (λ j. rational_product (number (scaled_entry rows b c j)) (U j)) (λ j. rational_product (only c j) (U c))
        ∙ ap (rational_sum scaled) (span_only 0 n c (U c) (omega arith) (let q = v.known in omega (arith, q)))

    zero_form : scaled ≡ rational_zero
    zero_form =
        solve rationals (scaled ∷ U c ∷ []) (var 0) (sum (sum (var 0) (var 1)) (minus (var 1))) refl
        ∙ ap (λ x. rational_sum x (rational_negation (U c))) (sym entered)
        ∙ solve rationals (U c ∷ []) (sum (var 0) (minus (var 0))) nothing refl

    -- the row of b before it
    row : Rational
    row = span 0 n (λ j. rational_product (entry_at rows p j) (U j))

    by_test : (j : ℕ) (z : Bool) → eqb b j ≡ z
        → rational_product (rational_product T (rational_sum (entry_at rows p j) (rational_negation (cond z rational_one rational_zero)))) (U j)
        ≡ rational_product T (rational_sum (rational_product (entry_at rows p j) (U j)) (rational_product (cond z rational_one rational_zero) (rational_negation (U b))))
    by_test j true e =
        solve rationals (T ∷ entry_at rows p j ∷ U j ∷ []) (product (product (var 0) (sum (var 1) (minus unit))) (var 2)) (product (var 0) (sum (product (var 1) (var 2)) (product unit (minus (var 2))))) refl
        ∙ ap (λ i. rational_product T (rational_sum (rational_product (entry_at rows p j) (U j)) (rational_product rational_one (rational_negation (U i))))) (sym (eqb-true b j e))
    by_test j false e =
        solve rationals (T ∷ entry_at rows p j ∷ U j ∷ U b ∷ []) (product (product (var 0) (sum (var 1) (minus nothing))) (var 2)) (product (var 0) (sum (product (var 1) (var 2)) (product nothing (minus (var 3))))) refl

    scaled_is : scaled ≡ rational_product T (rational_sum row (rational_negation (U b)))
    scaled_is =
        span_same 0 n (λ j. rational_product (number (scaled_entry rows b c j)) (U j)) (λ j. rational_product T (rational_sum (rational_product (entry_at rows p j) (U j)) (rational_product (only b j) (rational_negation (U b)))))
        (λ j l h. ap (λ x. rational_product x (U j)) (scaled_number n rows p c f j) ∙ by_test j (eqb b j) refl)
        ∙ span_product 0 n T (λ j. rational_sum (rational_product (entry_at rows p j) (U j)) (rational_product (only b j) (rational_negation (U b))))
        ∙ ap (rational_product T)
        (span_sum 0 n (λ j. rational_product (entry_at rows p j) (U j)) (λ j. rational_product (only b j) (rational_negation (U b)))
        ∙ ap (rational_sum row) (span_only 0 n b (rational_negation (U b)) (omega arith) (let q = s.basics p v.in_rows in omega (arith, q))))

    -- the factor times the entry of c is -1
    left : U b ≡ row
    left =
        solve rationals (U b ∷ row ∷ []) (var 0) (sum (var 1) (product (minus unit) (sum (var 1) (minus (var 0))))) refl
        ∙ ap (λ x. rational_sum row (rational_product x (rational_sum row (rational_negation (U b))))) (sym f.inverse)
        ∙ solve rationals (row ∷ U b ∷ entry_at rows p c ∷ T ∷ []) (sum (var 0) (product (product (var 2) (var 3)) (sum (var 0) (minus (var 1))))) (sum (var 0) (product (var 2) (product (var 3) (sum (var 0) (minus (var 1)))))) refl
        ∙ ap (λ x. rational_sum row (rational_product (entry_at rows p c) x)) (sym scaled_is ∙ zero_form)
        ∙ solve rationals (row ∷ entry_at rows p c ∷ []) (sum (var 0) (product (var 1) nothing)) (var 0) refl

    by_row : (basic_at rows k ≡ b) ⊎ (basic_at rows k ≢ b) → U (basic_at rows k) ≡ span 0 n (λ j. rational_product (entry_at rows k j) (U j))
    by_row (inl x) =
        let same : k ≡ p = s.distinct k p lk v.in_rows x in
        subst (λ m. U (basic_at rows m) ≡ span 0 n (λ j. rational_product (entry_at rows m j) (U j))) (sym same) left
    by_row (inr x) =
        ap U (sym (basic_stays n rows p c k lk x)) ∙ solves k (after lk)
        ∙ span_same 0 n (λ j. rational_product (entry_at (pivoted_rows n rows b c) k j) (U j)) (λ j. rational_sum (rational_product (entry_at rows k j) (U j)) (rational_product (entry_at rows k c) (rational_product (number (scaled_entry rows b c j)) (U j))))
        (λ j l h. ap (λ y. rational_product y (U j)) (entry_after n rows p c k j s f lk (omega (arith, h)) ∙ number_other n rows p c k j s f lk x)
        ∙ solve rationals (entry_at rows k j ∷ entry_at rows k c ∷ number (scaled_entry rows b c j) ∷ U j ∷ []) (product (sum (var 0) (product (var 1) (var 2))) (var 3)) (sum (product (var 0) (var 3)) (product (var 1) (product (var 2) (var 3)))) refl)
        ∙ span_sum 0 n (λ j. rational_product (entry_at rows k j) (U j)) (λ j. rational_product (entry_at rows k c) (rational_product (number (scaled_entry rows b c j)) (U j)))
        ∙ ap (rational_sum (span 0 n (λ j. rational_product (entry_at rows k j) (U j)))) (span_product 0 n (entry_at rows k c) (λ j. rational_product (number (scaled_entry rows b c j)) (U j)) ∙ ap (rational_product (entry_at rows k c)) zero_form)
        ∙ solve rationals (span 0 n (λ j. rational_product (entry_at rows k j) (U j)) ∷ entry_at rows k c ∷ []) (sum (var 0) (product (var 1) nothing)) (var 0) refl

-- numbers that differ by a multiple of one variable that isn't basic
pub solves_shifted : (n : ℕ) (rows : List TableRow) (c : ℕ) (D : Rational) (U W : ℕ → Rational) → Shape n rows → c < n → ((k : ℕ) → k < length rows → basic_at rows k ≢ c) → Solves n rows U
    → ((k : ℕ) → k < length rows → W (basic_at rows k) ≡ rational_sum (U (basic_at rows k)) (rational_product (entry_at rows k c) D)) → W c ≡ rational_sum (U c) D
    → ((j : ℕ) → j < n → j ≢ c → ((k : ℕ) → k < length rows → basic_at rows k ≢ j) → W j ≡ U j) → Solves n rows W
solves_shifted n rows c D U W s known free solves basics itself others k lk =
    basics k lk
    ∙ ap₂ rational_sum (solves k lk) (sym (span_only 0 n c (rational_product (entry_at rows k c) D) (omega arith) (omega (arith, known))))
    ∙ sym (span_sum 0 n (λ j. rational_product (entry_at rows k j) (U j)) (λ j. rational_product (only c j) (rational_product (entry_at rows k c) D)))
    ∙ span_same 0 n (λ j. rational_sum (rational_product (entry_at rows k j) (U j)) (rational_product (only c j) (rational_product (entry_at rows k c) D))) (λ j. rational_product (entry_at rows k j) (W j))
    (λ j l h. by_kind j (omega (arith, h)) (eqb c j) refl (basic_or_free rows j))
  where
    by_kind : (j : ℕ) → j < n → (z : Bool) → eqb c j ≡ z → ((m : ℕ) × (m < length rows) × (basic_at rows m ≡ j)) ⊎ ((m : ℕ) → m < length rows → basic_at rows m ≢ j)
        → rational_sum (rational_product (entry_at rows k j) (U j)) (rational_product (cond z rational_one rational_zero) (rational_product (entry_at rows k c) D)) ≡ rational_product (entry_at rows k j) (W j)
    by_kind j lj true e m =
        let same : c ≡ j = eqb-true c j e in
        subst (λ i. rational_sum (rational_product (entry_at rows k i) (U i)) (rational_product rational_one (rational_product (entry_at rows k c) D)) ≡ rational_product (entry_at rows k i) (W i)) same
        (solve rationals (entry_at rows k c ∷ U c ∷ D ∷ []) (sum (product (var 0) (var 1)) (product unit (product (var 0) (var 2)))) (product (var 0) (sum (var 1) (var 2))) refl
        ∙ ap (rational_product (entry_at rows k c)) (sym itself))
    by_kind j lj false e (inl m) =
        let gone : entry_at rows k j ≡ rational_zero = ap (entry_at rows k) (sym m.2) ∙ s.separate m.0 k m.1 lk in
        ap (λ x. rational_sum (rational_product x (U j)) (rational_product rational_zero (rational_product (entry_at rows k c) D))) gone
        ∙ solve rationals (U j ∷ rational_product (entry_at rows k c) D ∷ W j ∷ []) (sum (product nothing (var 0)) (product nothing (var 1))) (product nothing (var 2)) refl
        ∙ ap (λ x. rational_product x (W j)) (sym gone)
    by_kind j lj false e (inr free_) =
        solve rationals (entry_at rows k j ∷ U j ∷ rational_product (entry_at rows k c) D ∷ []) (sum (product (var 0) (var 1)) (product nothing (var 2))) (product (var 0) (var 1)) refl
        ∙ ap (rational_product (entry_at rows k j)) (sym (others j lj (λ w. differs c j e (sym w)) free_))
