-- Multiples and sums of rows have the multiples and sums of their values, and a pivot keeps the solutions.
use Rattle.std.proofs.Common.{◌≡◌, ℕ, zero, suc, ◌+◌, ◌<◌, pos, negsuc, sym, ap, ap₂, ◌∙◌, refl, arith, List, [], ◌∷◌, ◌++◌, length, take, drop, Bool, true, false, cond, nat_lt, drop-cons, add-one}
use Rattle.std.proofs.lemmas.Bool.Decides.{nat_tests}
use Rattle.std.proofs.lemmas.List.{take-append-drop}
use Rattle.fraction128.specs.declared.ratio.Ratio.{Ratio}
use Rattle.fraction128.specs.Listed.{product_of}
use Rattle.fraction128.specs.declared.Entry.{Entry}
use Rattle.fraction128.specs.Number.{whole, is_zero}
use Rattle.fraction128.specs.Listed.{fused}
use Rattle.fraction128.proofs.RingEquations.{var, sum, product, minus, nothing, unit, solve, mul_none}
use Rattle.fraction128.proofs.RationalRing.{Rational, number, rational_sum, rational_product, rational_negation, rational_zero, rational_one, rational_one-is, number_neg, rationals}
use Rattle.fraction128.proofs.ExactSteps.{product_positive, number_product, fused_positive, number_fused, none_number}
use Rattle.fraction128.proofs.RowValue.{ArePositive, positive_append, dot, dot_append}
use Rattle.tableau.specs.Rows.{entry, scaled, multiplied, merged, merged_onto, unless_none, zero_form, without, variable_at, coefficient_at, entry_at}

-- ---- multiples

pub scaled_positive : (t : Ratio) (es : List Entry) → 0 < t.denominator → ArePositive es → ArePositive (scaled t es)
scaled_positive t [] ft p = tt
scaled_positive t (e ∷ es) ft p = (product_positive e.coefficient t p.0 ft, scaled_positive t es ft p.1)

pub dot_scaled : (v : ℕ → Rational) (t : Ratio) (es : List Entry) → 0 < t.denominator → ArePositive es → dot v (scaled t es) ≡ rational_product (number t) (dot v es)
dot_scaled v t [] ft p = sym (mul_none rationals (number t))
dot_scaled v t (e ∷ es) ft p =
    ap₂ (λ x y. rational_sum (rational_product x (v e.variable)) y) (number_product e.coefficient t p.0 ft) (dot_scaled v t es ft p.1)
    ∙ solve rationals (number e.coefficient ∷ number t ∷ v e.variable ∷ dot v es ∷ [])
    (sum (product (product (var 0) (var 1)) (var 2)) (product (var 1) (var 3))) (product (var 1) (sum (product (var 0) (var 2)) (var 3))) refl

pub multiplied_positive : (a : Ratio) (es : List Entry) → 0 < a.denominator → ArePositive es → ArePositive (multiplied a es)
multiplied_positive a [] fa p = tt
multiplied_positive a (e ∷ es) fa p = (product_positive a e.coefficient fa p.0, multiplied_positive a es fa p.1)

pub dot_multiplied : (v : ℕ → Rational) (a : Ratio) (es : List Entry) → 0 < a.denominator → ArePositive es → dot v (multiplied a es) ≡ rational_product (number a) (dot v es)
dot_multiplied v a [] fa p = sym (mul_none rationals (number a))
dot_multiplied v a (e ∷ es) fa p =
    ap₂ (λ x y. rational_sum (rational_product x (v e.variable)) y) (number_product a e.coefficient fa p.0) (dot_multiplied v a es fa p.1)
    ∙ solve rationals (number a ∷ number e.coefficient ∷ v e.variable ∷ dot v es ∷ [])
    (sum (product (product (var 0) (var 1)) (var 2)) (product (var 0) (var 3))) (product (var 0) (sum (product (var 1) (var 2)) (var 3))) refl

-- ---- sums

same_variable : (m n : ℕ) → nat_lt m n ≡ false → nat_lt n m ≡ false → m ≡ n
same_variable m n p q = grind (arith, nat_tests)

-- an entry that isn't kept is 0
dot_unless : (v : ℕ → Rational) (e : Entry) (es : List Entry) → 0 < e.coefficient.denominator
    → dot v (unless_none e es) ≡ rational_sum (rational_product (number e.coefficient) (v e.variable)) (dot v es)
dot_unless v e es f = by_test (is_zero e.coefficient) refl
  where
    by_test : (t : Bool) → is_zero e.coefficient ≡ t → dot v (cond t es (e ∷ es)) ≡ rational_sum (rational_product (number e.coefficient) (v e.variable)) (dot v es)
    by_test true is =
        solve rationals (v e.variable ∷ dot v es ∷ []) (var 1) (sum (product nothing (var 0)) (var 1)) refl
        ∙ ap (λ x. rational_sum (rational_product x (v e.variable)) (dot v es)) (sym (none_number e.coefficient f is))
    by_test false is = refl

unless_positive : (e : Entry) (es : List Entry) → 0 < e.coefficient.denominator → ArePositive es → ArePositive (unless_none e es)
unless_positive e es f p = by_test (is_zero e.coefficient)
  where
    by_test : (t : Bool) → ArePositive (cond t es (e ∷ es))
    by_test true = p
    by_test false = (f, p)

pub record MergesTo (v : ℕ → Rational) (a : Ratio) (xs zs all : List Entry) : Type 0 where
  pub adds : dot v all ≡ rational_sum (dot v xs) (rational_product (number a) (dot v zs))
  pub positive : ArePositive all

onto_merges : (v : ℕ → Rational) (a : Ratio) (x : Entry) (xs : List Entry) (rest : List Entry → List Entry) → 0 < a.denominator → 0 < x.coefficient.denominator
    → ((ws : List Entry) → ArePositive ws → MergesTo v a xs ws (rest ws)) → (zs : List Entry) → ArePositive zs → MergesTo v a (x ∷ xs) zs (merged_onto a x rest zs)
onto_merges v a x xs rest fa fx ih [] p =
    record {
      adds =
          ap (rational_sum (rational_product (number x.coefficient) (v x.variable))) (ih [] tt).adds
          ∙ solve rationals (rational_product (number x.coefficient) (v x.variable) ∷ dot v xs ∷ number a ∷ [])
          (sum (var 0) (sum (var 1) (product (var 2) nothing))) (sum (sum (var 0) (var 1)) (product (var 2) nothing)) refl;
      positive = (fx, (ih [] tt).positive);
    }
onto_merges v a x xs rest fa fx ih (z ∷ zs) p = by_test (nat_lt x.variable z.variable) refl (nat_lt z.variable x.variable) refl (onto_merges v a x xs rest fa fx ih zs p.1)
  where
    X : Rational
    X = rational_product (number x.coefficient) (v x.variable)

    by_test : (t : Bool) → nat_lt x.variable z.variable ≡ t → (u : Bool) → nat_lt z.variable x.variable ≡ u → MergesTo v a (x ∷ xs) zs (merged_onto a x rest zs)
        → MergesTo v a (x ∷ xs) (z ∷ zs) (cond t (x ∷ rest (z ∷ zs)) (cond u (entry z.variable (product_of a z.coefficient) ∷ merged_onto a x rest zs) (unless_none (entry x.variable (fused x.coefficient a z.coefficient)) (rest zs))))
    by_test true e u f more =
        record {
          adds =
              ap (rational_sum (rational_product (number x.coefficient) (v x.variable))) (ih (z ∷ zs) p).adds
              ∙ solve rationals (rational_product (number x.coefficient) (v x.variable) ∷ dot v xs ∷ rational_product (number a) (dot v (z ∷ zs)) ∷ []) (sum (var 0) (sum (var 1) (var 2))) (sum (sum (var 0) (var 1)) (var 2)) refl;
          positive = (fx, (ih (z ∷ zs) p).positive);
        }
    by_test false e true f more =
        record {
          adds =
              ap₂ (λ c d. rational_sum (rational_product c (v z.variable)) d) (number_product a z.coefficient fa p.0) more.adds
              ∙ solve rationals (number a ∷ number z.coefficient ∷ v z.variable ∷ dot v (x ∷ xs) ∷ dot v zs ∷ [])
              (sum (product (product (var 0) (var 1)) (var 2)) (sum (var 3) (product (var 0) (var 4)))) (sum (var 3) (product (var 0) (sum (product (var 1) (var 2)) (var 4)))) refl;
          positive = (product_positive a z.coefficient fa p.0, more.positive);
        }
    by_test false e false f more =
        record {
          adds =
              dot_unless v (entry x.variable (fused x.coefficient a z.coefficient)) (rest zs) (fused_positive x.coefficient a z.coefficient fx fa p.0)
              ∙ ap₂ (λ c d. rational_sum (rational_product c (v x.variable)) d) (number_fused x.coefficient a z.coefficient fx fa p.0) (ih zs p.1).adds
              ∙ solve rationals (number x.coefficient ∷ number a ∷ number z.coefficient ∷ v x.variable ∷ dot v xs ∷ dot v zs ∷ [])
              (sum (product (sum (var 0) (product (var 1) (var 2))) (var 3)) (sum (var 4) (product (var 1) (var 5))))
              (sum (sum (product (var 0) (var 3)) (var 4)) (product (var 1) (sum (product (var 2) (var 3)) (var 5)))) refl
              ∙ ap (λ y. rational_sum (rational_sum (rational_product (number x.coefficient) (v x.variable)) (dot v xs)) (rational_product (number a) (rational_sum (rational_product (number z.coefficient) y) (dot v zs))))
              (ap v (same_variable x.variable z.variable e f));
          positive = unless_positive (entry x.variable (fused x.coefficient a z.coefficient)) (rest zs) (fused_positive x.coefficient a z.coefficient fx fa p.0) (ih zs p.1).positive;
        }

pub merges : (v : ℕ → Rational) (a : Ratio) (xs zs : List Entry) → 0 < a.denominator → ArePositive xs → ArePositive zs → MergesTo v a xs zs (merged a xs zs)
merges v a [] zs fa p q =
    record {
      adds = dot_multiplied v a zs fa q ∙ solve rationals (rational_product (number a) (dot v zs) ∷ []) (var 0) (sum nothing (var 0)) refl;
      positive = multiplied_positive a zs fa q;
    }
merges v a (x ∷ xs) zs fa p q = onto_merges v a x xs (merged a xs) fa p.0 (λ ws r. merges v a xs ws fa p.1 r) zs q

pub dot_merged : (v : ℕ → Rational) (a : Ratio) (xs zs : List Entry) → 0 < a.denominator → ArePositive xs → ArePositive zs
    → dot v (merged a xs zs) ≡ rational_sum (dot v xs) (rational_product (number a) (dot v zs))
dot_merged v a xs zs fa p q = (merges v a xs zs fa p q).adds

pub merged_positive : (a : Ratio) (xs zs : List Entry) → 0 < a.denominator → ArePositive xs → ArePositive zs → ArePositive (merged a xs zs)
merged_positive a xs zs fa p q = (merges (λ i. rational_zero) a xs zs fa p q).positive

-- ---- forms

pub positive_take : (n : ℕ) (es : List Entry) → ArePositive es → ArePositive (take n es)
positive_take zero es p = tt
positive_take (suc n) [] p = tt
positive_take (suc n) (e ∷ es) p = (p.0, positive_take n es p.1)

pub positive_drop : (n : ℕ) (es : List Entry) → ArePositive es → ArePositive (drop n es)
positive_drop zero es p = p
positive_drop (suc n) [] p = tt
positive_drop (suc n) (e ∷ es) p = positive_drop n es p.1

pub zero_form_positive : (p b : ℕ) (es : List Entry) → ArePositive es → ArePositive (zero_form p b es)
zero_form_positive p b es f = positive_append (take p es) (entry b (whole (negsuc 0)) ∷ drop p es) (positive_take p es f) (omega arith, positive_drop p es f)

minus_one : number (whole (negsuc 0)) ≡ rational_negation rational_one
minus_one = number_neg (whole (pos 1)) (omega arith) ∙ ap rational_negation (sym rational_one-is)

pub dot_zero_form : (v : ℕ → Rational) (p b : ℕ) (es : List Entry) → dot v (zero_form p b es) ≡ rational_sum (dot v es) (rational_negation (v b))
dot_zero_form v p b es =
    dot_append v (take p es) (entry b (whole (negsuc 0)) ∷ drop p es)
    ∙ ap (λ m. rational_sum (dot v (take p es)) (rational_sum (rational_product m (v b)) (dot v (drop p es)))) minus_one
    ∙ solve rationals (dot v (take p es) ∷ v b ∷ dot v (drop p es) ∷ [])
    (sum (var 0) (sum (product (minus unit) (var 1)) (var 2))) (sum (sum (var 0) (var 2)) (minus (var 1))) refl
    ∙ ap (λ m. rational_sum m (rational_negation (v b))) (sym (dot_append v (take p es) (drop p es)) ∙ ap (dot v) (take-append-drop p es))

pub without_positive : (q : ℕ) (es : List Entry) → ArePositive es → ArePositive (without q es)
without_positive q es f = positive_append (take q es) (drop (q + 1) es) (positive_take q es f) (positive_drop (q + 1) es f)

pub dot_without : (v : ℕ → Rational) (q : ℕ) (es : List Entry) → q < length es
    → dot v es ≡ rational_sum (dot v (without q es)) (rational_product (number (coefficient_at es q)) (v (variable_at es q)))
dot_without v q es lt =
    ap (dot v) (sym (take-append-drop q es) ∙ ap (λ xs. take q es ++ xs) (rw add-one (drop-cons es q (entry 0 (whole (pos 0))) lt)))
    ∙ dot_append v (take q es) (entry_at es q ∷ drop (q + 1) es)
    ∙ solve rationals (dot v (take q es) ∷ rational_product (number (coefficient_at es q)) (v (variable_at es q)) ∷ dot v (drop (q + 1) es) ∷ [])
    (sum (var 0) (sum (var 1) (var 2))) (sum (sum (var 0) (var 2)) (var 1)) refl
    ∙ ap (λ m. rational_sum m (rational_product (number (coefficient_at es q)) (v (variable_at es q)))) (sym (dot_append v (take q es) (drop (q + 1) es)))

-- ---- the row that changes its basic variable

-- the form is 0 exactly where the row of b is met
pub form_from_row : (v : ℕ → Rational) (t : Ratio) (p b : ℕ) (es : List Entry) → 0 < t.denominator → ArePositive es → v b ≡ dot v es → dot v (scaled t (zero_form p b es)) ≡ rational_zero
form_from_row v t p b es ft f e =
    dot_scaled v t (zero_form p b es) ft (zero_form_positive p b es f) ∙ ap (rational_product (number t)) (dot_zero_form v p b es ∙ ap (λ m. rational_sum (dot v es) (rational_negation m)) e)
    ∙ solve rationals (number t ∷ dot v es ∷ []) (product (var 0) (sum (var 1) (minus (var 1)))) nothing refl

pub row_from_form : (v : ℕ → Rational) (t : Ratio) (u : Rational) (p b : ℕ) (es : List Entry) → 0 < t.denominator → ArePositive es → rational_product u (number t) ≡ rational_one
    → dot v (scaled t (zero_form p b es)) ≡ rational_zero → v b ≡ dot v es
row_from_form v t u p b es ft f inverse e =
    let scaled_is : rational_product (number t) (rational_sum (dot v es) (rational_negation (v b))) ≡ rational_zero =
    sym (dot_scaled v t (zero_form p b es) ft (zero_form_positive p b es f) ∙ ap (rational_product (number t)) (dot_zero_form v p b es)) ∙ e in
    solve rationals (v b ∷ dot v es ∷ []) (var 0) (sum (var 1) (minus (product unit (sum (var 1) (minus (var 0)))))) refl
    ∙ ap (λ m. rational_sum (dot v es) (rational_negation (rational_product m (rational_sum (dot v es) (rational_negation (v b)))))) (sym inverse)
    ∙ solve rationals (u ∷ number t ∷ rational_sum (dot v es) (rational_negation (v b)) ∷ dot v es ∷ [])
    (sum (var 3) (minus (product (product (var 0) (var 1)) (var 2)))) (sum (var 3) (minus (product (var 0) (product (var 1) (var 2))))) refl
    ∙ ap (λ m. rational_sum (dot v es) (rational_negation (rational_product u m))) scaled_is
    ∙ solve rationals (u ∷ dot v es ∷ []) (sum (var 1) (minus (product (var 0) nothing))) (var 1) refl

-- the form is 0 exactly where the row of c is met, which is the form without c
pub solved_from_form : (v : ℕ → Rational) (q c : ℕ) (form : List Entry) → q < length form → variable_at form q ≡ c → number (coefficient_at form q) ≡ rational_negation rational_one
    → dot v form ≡ rational_zero → v c ≡ dot v (without q form)
solved_from_form v q c form lt is minus_is e =
    solve rationals (v c ∷ dot v (without q form) ∷ []) (var 0) (sum (var 1) (minus (sum (var 1) (product (minus unit) (var 0))))) refl
    ∙ ap (λ m. rational_sum (dot v (without q form)) (rational_negation m))
    (ap₂ (λ m n. rational_sum (dot v (without q form)) (rational_product m (v n))) (sym minus_is) (sym is) ∙ sym (dot_without v q form lt) ∙ e)
    ∙ solve rationals (dot v (without q form) ∷ []) (sum (var 0) (minus nothing)) (var 0) refl

pub form_from_solved : (v : ℕ → Rational) (q c : ℕ) (form : List Entry) → q < length form → variable_at form q ≡ c → number (coefficient_at form q) ≡ rational_negation rational_one
    → v c ≡ dot v (without q form) → dot v form ≡ rational_zero
form_from_solved v q c form lt is minus_is e =
    dot_without v q form lt ∙ ap₂ (λ m n. rational_sum (dot v (without q form)) (rational_product m n)) minus_is (ap v is ∙ e)
    ∙ solve rationals (dot v (without q form) ∷ []) (sum (var 0) (product (minus unit) (var 0))) nothing refl

-- ---- the other rows

pub same_where_form : (v : ℕ → Rational) (a : Ratio) (es form : List Entry) → 0 < a.denominator → ArePositive es → ArePositive form → dot v form ≡ rational_zero
    → dot v (merged a es form) ≡ dot v es
same_where_form v a es form fa p q e =
    dot_merged v a es form fa p q ∙ ap (λ m. rational_sum (dot v es) (rational_product (number a) m)) e
    ∙ solve rationals (dot v es ∷ number a ∷ []) (sum (var 0) (product (var 1) nothing)) (var 0) refl
