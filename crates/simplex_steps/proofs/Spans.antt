-- Sums over variables, and rows by their coefficients.
use Rattle.std.proofs.Common.{◌≡◌, ◌≢◌, ℕ, zero, suc, ◌+◌, ◌<◌, ◌≤◌, pos, sym, ap, ap₂, ◌∙◌, refl, arith, List, [], ◌∷◌, Bool, true, false, cond, eqb, eqb-true, eq-eqb}
use Rattle.fraction128.specs.declared.ratio.Ratio.{Ratio}
use Rattle.fraction128.specs.Number.{whole, is_zero}
use Rattle.fraction128.proofs.RingEquations.{var, sum, product, nothing, unit, solve}
use Rattle.fraction128.proofs.RationalRing.{Rational, number, rational_sum, rational_product, rational_zero, rational_one, rational_zero-is, rationals}
use Rattle.fraction128.proofs.RationalOrder.{NonPos, nonpos_plus, nonpos_none}
use Rattle.fraction128.proofs.ExactSteps.{none_number}
use Rattle.fraction128.specs.declared.Entry.{Entry}
use Rattle.fraction128.specs.Grid.{coefficient, entries_from}
use Rattle.fraction128.proofs.RowValue.{dot, ArePositive}
use Rattle.simplex_steps.specs.Law.{AreFrom}

-- the sum over the n variables from i on
abbrev pub span : ℕ → ℕ → (ℕ → Rational) → Rational
span i zero f = rational_zero
span i (suc n) f = rational_sum (f i) (span (i + 1) n f)

pub span_same : (i n : ℕ) (f g : ℕ → Rational) → ((j : ℕ) → i ≤ j → j < i + n → f j ≡ g j) → span i n f ≡ span i n g
span_same i zero f g h = refl
span_same i (suc n) f g h = ap₂ rational_sum (h i (omega arith) (omega arith)) (span_same (i + 1) n f g (λ j a b. h j (omega (arith, a)) (omega (arith, b))))

pub span_sum : (i n : ℕ) (f g : ℕ → Rational) → span i n (λ j. rational_sum (f j) (g j)) ≡ rational_sum (span i n f) (span i n g)
span_sum i zero f g = solve rationals [] nothing (sum nothing nothing) refl
span_sum i (suc n) f g =
    ap (rational_sum (rational_sum (f i) (g i))) (span_sum (i + 1) n f g)
    ∙ solve rationals (f i ∷ g i ∷ span (i + 1) n f ∷ span (i + 1) n g ∷ []) (sum (sum (var 0) (var 1)) (sum (var 2) (var 3))) (sum (sum (var 0) (var 2)) (sum (var 1) (var 3))) refl

pub span_product : (i n : ℕ) (x : Rational) (f : ℕ → Rational) → span i n (λ j. rational_product x (f j)) ≡ rational_product x (span i n f)
span_product i zero x f = solve rationals (x ∷ []) nothing (product (var 0) nothing) refl
span_product i (suc n) x f =
    ap (rational_sum (rational_product x (f i))) (span_product (i + 1) n x f)
    ∙ solve rationals (x ∷ f i ∷ span (i + 1) n f ∷ []) (sum (product (var 0) (var 1)) (product (var 0) (var 2))) (product (var 0) (sum (var 1) (var 2))) refl

pub span_zero : (i n : ℕ) (f : ℕ → Rational) → ((j : ℕ) → i ≤ j → j < i + n → f j ≡ rational_zero) → span i n f ≡ rational_zero
span_zero i zero f h = refl
span_zero i (suc n) f h =
    ap₂ rational_sum (h i (omega arith) (omega arith)) (span_zero (i + 1) n f (λ j a b. h j (omega (arith, a)) (omega (arith, b)))) ∙ solve rationals [] (sum nothing nothing) nothing refl

pub span_nonpos : (i n : ℕ) (f : ℕ → Rational) → ((j : ℕ) → i ≤ j → j < i + n → NonPos (f j)) → NonPos (span i n f)
span_nonpos i zero f h = nonpos_none
span_nonpos i (suc n) f h = nonpos_plus (f i) (span (i + 1) n f) (h i (omega arith) (omega arith)) (span_nonpos (i + 1) n f (λ j a b. h j (omega (arith, a)) (omega (arith, b))))

-- 1 for one variable, 0 for the others
abbrev pub only : ℕ → ℕ → Rational
only c j = cond (eqb c j) rational_one rational_zero

pub not_same : (m n : ℕ) → m ≢ n → eqb m n ≡ false
not_same m n ne = by_test (eqb m n) refl
  where
    by_test : (z : Bool) → eqb m n ≡ z → z ≡ false
    by_test true e = absurd (ne (eqb-true m n e))
    by_test false e = refl

pub differs : (m n : ℕ) → eqb m n ≡ false → m ≢ n
differs m n e w = let z : true ≡ false = sym (eq-eqb m n w) ∙ e in absurd (cc)

pub span_only : (i n c : ℕ) (x : Rational) → i ≤ c → c < i + n → span i n (λ j. rational_product (only c j) x) ≡ x
span_only i zero c x a b = absurd (omega (arith, a, b))
span_only i (suc n) c x a b = by_test (eqb c i) refl (λ a'. span_only (i + 1) n c x a' (omega (arith, b)))
  where
    rest_zero : c ≡ i → span (i + 1) n (λ j. rational_product (only c j) x) ≡ rational_zero
    rest_zero e =
        span_zero (i + 1) n (λ j. rational_product (only c j) x)
        (λ j p q. ap (λ z. rational_product (cond z rational_one rational_zero) x) (not_same c j (λ w. let v : c ≡ i = e in absurd (omega (arith, p, w, v)))) ∙ solve rationals (x ∷ []) (product nothing (var 0)) nothing refl)

    by_test : (z : Bool) → eqb c i ≡ z → (i + 1 ≤ c → span (i + 1) n (λ j. rational_product (only c j) x) ≡ x)
        → rational_sum (rational_product (cond z rational_one rational_zero) x) (span (i + 1) n (λ j. rational_product (only c j) x)) ≡ x
    by_test true e ih = ap (rational_sum (rational_product rational_one x)) (rest_zero (eqb-true c i e)) ∙ solve rationals (x ∷ []) (sum (product unit (var 0)) nothing) (var 0) refl
    by_test false e ih =
        ap (rational_sum (rational_product rational_zero x)) (ih (let ne = differs c i e in omega (arith, a, ne))) ∙ solve rationals (x ∷ []) (sum (product nothing (var 0)) (var 0)) (var 0) refl

-- ---- rows

absent_below : (i n : ℕ) (es : List Entry) (j : ℕ) → AreFrom i n es → j < i → coefficient es j ≡ whole (pos 0)
absent_below i n [] j h lt = refl
absent_below i n (e ∷ es) j h lt =
    ap (λ z. cond z e.coefficient (coefficient es j)) (not_same e.variable j (λ w. let p = h.0 in absurd (omega (arith, p, lt, w))))
    ∙ absent_below (e.variable + 1) n es j h.2 (let p = h.0 in omega (arith, p, lt))

-- the value of a row is the sum over all variables of coefficient times value
pub dot_coefficients : (i n : ℕ) (es : List Entry) (V : ℕ → Rational) → AreFrom i n es → dot V es ≡ span 0 n (λ j. rational_product (number (coefficient es j)) (V j))
dot_coefficients i n [] V h =
    sym (span_zero 0 n (λ j. rational_product (number (whole (pos 0))) (V j)) (λ j a b. ap (λ z. rational_product z (V j)) (sym rational_zero-is) ∙ solve rationals (V j ∷ []) (product nothing (var 0)) nothing refl))
dot_coefficients i n (e ∷ es) V h =
    let x = rational_product (number e.coefficient) (V e.variable) in
    ap₂ rational_sum (sym (span_only 0 n e.variable x (omega arith) (let p = h.1 in omega (arith, p)))) (dot_coefficients (e.variable + 1) n es V h.2)
    ∙ sym (span_sum 0 n (λ j. rational_product (only e.variable j) x) (λ j. rational_product (number (coefficient es j)) (V j)))
    ∙ span_same 0 n (λ j. rational_sum (rational_product (only e.variable j) x) (rational_product (number (coefficient es j)) (V j))) (λ j. rational_product (number (coefficient (e ∷ es) j)) (V j))
    (λ j a b. by_test j (eqb e.variable j) refl)
  where
    by_test : (j : ℕ) (z : Bool) → eqb e.variable j ≡ z
        → rational_sum (rational_product (cond z rational_one rational_zero) (rational_product (number e.coefficient) (V e.variable))) (rational_product (number (coefficient es j)) (V j))
        ≡ rational_product (number (cond z e.coefficient (coefficient es j))) (V j)
    by_test j true w =
        let same : e.variable ≡ j = eqb-true e.variable j w in
        let gone : coefficient es j ≡ whole (pos 0) = absent_below (e.variable + 1) n es j h.2 (omega (arith, same)) in
        ap₂ (λ y z. rational_sum (rational_product rational_one (rational_product (number e.coefficient) (V y))) (rational_product z (V j))) same (ap number gone ∙ sym rational_zero-is)
        ∙ solve rationals (number e.coefficient ∷ V j ∷ []) (sum (product unit (product (var 0) (var 1))) (product nothing (var 1))) (product (var 0) (var 1)) refl
    by_test j false w =
        solve rationals (number e.coefficient ∷ V e.variable ∷ number (coefficient es j) ∷ V j ∷ [])
        (sum (product nothing (product (var 0) (var 1))) (product (var 2) (var 3))) (product (var 2) (var 3)) refl

-- ---- listed entries

pub listed_positive : (i n : ℕ) (f : ℕ → Ratio) → ((j : ℕ) → 0 < (f j).denominator) → ArePositive (entries_from i n f)
listed_positive i zero f h = tt
listed_positive i (suc n) f h = by_test (is_zero (f i)) (listed_positive (i + 1) n f h)
  where
    by_test : (z : Bool) → ArePositive (entries_from (i + 1) n f) → ArePositive (cond z (entries_from (i + 1) n f) (record { variable = i; coefficient = f i } ∷ entries_from (i + 1) n f))
    by_test true ih = ih
    by_test false ih = (h i, ih)

pub listed_from : (i n m : ℕ) (f : ℕ → Ratio) → i + n ≤ m → AreFrom i m (entries_from i n f)
listed_from i zero m f le = tt
listed_from i (suc n) m f le = by_test (is_zero (f i)) (listed_from (i + 1) n m f (omega (arith, le)))
  where
    weaker : (k l : ℕ) (es : List Entry) → k ≤ l → AreFrom l m es → AreFrom k m es
    weaker k l [] q h = tt
    weaker k l (e ∷ es) q h = (let p = h.0 in omega (arith, p, q), h.1, h.2)

    by_test : (z : Bool) → AreFrom (i + 1) m (entries_from (i + 1) n f) → AreFrom i m (cond z (entries_from (i + 1) n f) (record { variable = i; coefficient = f i } ∷ entries_from (i + 1) n f))
    by_test true ih = weaker i (i + 1) (entries_from (i + 1) n f) (omega arith) ih
    by_test false ih = (omega arith, omega (arith, le), ih)

pub number_listed : (i n : ℕ) (f : ℕ → Ratio) → ((j : ℕ) → 0 < (f j).denominator) → (j : ℕ) → i ≤ j → j < i + n → number (coefficient (entries_from i n f) j) ≡ number (f j)
number_listed i zero f h j a b = absurd (omega (arith, a, b))
number_listed i (suc n) f h j a b =
    by_test (is_zero (f i)) refl (eqb i j) refl (λ c. number_listed (i + 1) n f h j c (omega (arith, b))) (λ l. absent_below (i + 1) (i + 1 + n) (entries_from (i + 1) n f) j (listed_from (i + 1) n (i + 1 + n) f (omega arith)) l)
  where
    by_test : (z : Bool) → is_zero (f i) ≡ z → (w : Bool) → eqb i j ≡ w → (i + 1 ≤ j → number (coefficient (entries_from (i + 1) n f) j) ≡ number (f j))
        → (j < i + 1 → coefficient (entries_from (i + 1) n f) j ≡ whole (pos 0))
        → number (coefficient (cond z (entries_from (i + 1) n f) (record { variable = i; coefficient = f i } ∷ entries_from (i + 1) n f)) j) ≡ number (f j)
    by_test true e true d ih gone =
        let same : i ≡ j = eqb-true i j d in
        ap number (gone (omega (arith, same))) ∙ sym rational_zero-is ∙ sym (none_number (f i) (h i) e) ∙ ap (λ k. number (f k)) same
    by_test true e false d ih gone = ih (let ne = differs i j d in omega (arith, a, ne))
    by_test false e true d ih gone =
        ap (λ z. number (cond z (f i) (coefficient (entries_from (i + 1) n f) j))) d ∙ ap (λ k. number (f k)) (eqb-true i j d)
    by_test false e false d ih gone =
        ap (λ z. number (cond z (f i) (coefficient (entries_from (i + 1) n f) j))) d ∙ ih (let ne = differs i j d in omega (arith, a, ne))

pub coefficient_positive : (es : List Entry) (j : ℕ) → ArePositive es → 0 < (coefficient es j).denominator
coefficient_positive [] j h = omega arith
coefficient_positive (e ∷ es) j h = by_test (eqb e.variable j) (coefficient_positive es j h.1)
  where
    by_test : (z : Bool) → 0 < (coefficient es j).denominator → 0 < (cond z e.coefficient (coefficient es j)).denominator
    by_test true ih = h.0
    by_test false ih = ih
