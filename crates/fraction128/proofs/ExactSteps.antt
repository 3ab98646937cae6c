-- Sums, products and reciprocals by the listed steps name the sum, the product and the reciprocal, without bound.
use Rattle.std.proofs.Common.{◌≡◌, ◌≢◌, ℕ, zero, suc, ◌*◌, ◌/◌, ◌<◌, ℤ, pos, negsuc, ◌+ℤ◌, ◌*ℤ◌, unsigned_abs, sym, ap, ap₂, ◌∙◌, subst, arith, refl, [], ◌∷◌, true, eqb-true}
use Rattle.std.specs.Int.{◌∣◌}
use Rattle.std.specs.Int.RustNames.{int_div}
use Rattle.std.proofs.Math.Nat.{mul-div_cancel'}
use Rattle.std.proofs.lemmas.Nat.Gcd.{dvd_trans}
use Rattle.fraction128.specs.declared.ratio.Ratio.{Ratio}
use Rattle.fraction128.specs.Gcd.{gcd_of}
use Rattle.fraction128.specs.Listed.{sum_of, sum_over, reduced_by, product_of}
use Rattle.fraction128.proofs.Divisors.{IsGcd-gcd_of}
use Rattle.fraction128.proofs.Integers.{quot-times}
use Rattle.fraction128.proofs.LowestTerms.{pos_times}
use Rattle.fraction128.specs.Number.{whole, SameNumber, unreduced_sum, unreduced_product, is_zero}
use Rattle.fraction128.specs.Listed.{fused, reciprocal_of}
use Rattle.fraction128.proofs.FieldEquations.{product_with_reciprocal}
use Rattle.fraction128.proofs.RingEquations.{var, sum, product, nothing, unit, solve}
use Rattle.fraction128.proofs.WholeNumbers.{wholes}
use Rattle.fraction128.proofs.RationalRing.{number, number_eq, number_plus, number_times, rational_sum, rational_product, rational_zero, rational_one, rational_zero-is, rational_one-is}

right_above : (m n : ℕ) → 0 < m * n → 0 < n
right_above m zero h = omega arith
right_above m (suc n) h = omega arith

pos_mul : (m n : ℕ) → pos (m * n) ≡ pos m *ℤ pos n
pos_mul m n = refl

pub product_positive : (x y : Ratio) → 0 < x.denominator → 0 < y.denominator → 0 < (product_of x y).denominator
unfolding product_of
product_positive x y fx fy =
    let u = gcd_of (unsigned_abs x.numerator) y.denominator in
    let v = gcd_of (unsigned_abs y.numerator) x.denominator in
    let gu = IsGcd-gcd_of (unsigned_abs x.numerator) y.denominator in
    let gv = IsGcd-gcd_of (unsigned_abs y.numerator) x.denominator in
    pos_times (x.denominator / v) (y.denominator / u)
    (right_above v (x.denominator / v) (subst (λ n. 0 < n) (sym (mul-div_cancel' v gv.1)) fx))
    (right_above u (y.denominator / u) (subst (λ n. 0 < n) (sym (mul-div_cancel' u gu.1)) fy))

pub product_same : (x y : Ratio) → SameNumber (product_of x y) (unreduced_product x y)
unfolding product_of
product_same x y =
    let u = gcd_of (unsigned_abs x.numerator) y.denominator in
    let v = gcd_of (unsigned_abs y.numerator) x.denominator in
    let gu = IsGcd-gcd_of (unsigned_abs x.numerator) y.denominator in
    let gv = IsGcd-gcd_of (unsigned_abs y.numerator) x.denominator in
    let a' = int_div x.numerator (pos u) in
    let c' = int_div y.numerator (pos v) in
    let b' = x.denominator / v in
    let d' = y.denominator / u in
    ap (λ n. (a' *ℤ c') *ℤ n) (ap₂ ◌*ℤ◌ (ap pos (sym (mul-div_cancel' v gv.1))) (ap pos (sym (mul-div_cancel' u gu.1))))
    ∙ solve wholes (a' ∷ c' ∷ pos b' ∷ pos d' ∷ pos u ∷ pos v ∷ [])
    (product (product (var 0) (var 1)) (product (product (var 5) (var 2)) (product (var 4) (var 3))))
    (product (product (product (var 0) (var 4)) (product (var 1) (var 5))) (product (var 2) (var 3))) refl
    ∙ ap (λ n. n *ℤ (pos b' *ℤ pos d')) (ap₂ ◌*ℤ◌ (quot-times x.numerator u gu.0) (quot-times y.numerator v gv.0))

pub number_product : (x y : Ratio) → 0 < x.denominator → 0 < y.denominator → number (product_of x y) ≡ rational_product (number x) (number y)
number_product x y fx fy =
    number_eq (product_of x y) (unreduced_product x y) (product_positive x y fx fy) (pos_times x.denominator y.denominator fx fy) (product_same x y) ∙ number_times x y fx fy

-- h divides g, which divides d
part_of : (h g d : ℕ) → h ∣ g → g ∣ d → d ≡ h * (d / h)
part_of h g d p q = sym (mul-div_cancel' h (dvd_trans h p q))

pub sum_positive : (x y : Ratio) → 0 < x.denominator → 0 < y.denominator → 0 < (sum_of x y).denominator
unfolding sum_of reduced_by
sum_positive x y fx fy =
    let g = gcd_of x.denominator y.denominator in
    let gg = IsGcd-gcd_of x.denominator y.denominator in
    let h = gcd_of (unsigned_abs (sum_over x y)) g in
    let gh = IsGcd-gcd_of (unsigned_abs (sum_over x y)) g in
    pos_times (x.denominator / g) (y.denominator / h)
    (right_above g (x.denominator / g) (subst (λ n. 0 < n) (sym (mul-div_cancel' g gg.0)) fx))
    (right_above h (y.denominator / h) (subst (λ n. 0 < n) (part_of h g y.denominator gh.1 gg.1) fy))

pub sum_same : (x y : Ratio) → SameNumber (sum_of x y) (unreduced_sum x y)
unfolding sum_of sum_over reduced_by
sum_same x y =
    let g = gcd_of x.denominator y.denominator in
    let gg = IsGcd-gcd_of x.denominator y.denominator in
    let b' = x.denominator / g in
    let d' = y.denominator / g in
    let s = x.numerator *ℤ pos d' +ℤ y.numerator *ℤ pos b' in
    let h = gcd_of (unsigned_abs s) g in
    let gh = IsGcd-gcd_of (unsigned_abs s) g in
    let s' = int_div s (pos h) in
    let e = y.denominator / h in
    ap (λ n. s' *ℤ n) (ap₂ ◌*ℤ◌ (ap pos (sym (mul-div_cancel' g gg.0))) (ap pos (part_of h g y.denominator gh.1 gg.1)))
    ∙ solve wholes (s' ∷ pos g ∷ pos b' ∷ pos h ∷ pos e ∷ [])
    (product (var 0) (product (product (var 1) (var 2)) (product (var 3) (var 4)))) (product (product (product (var 0) (var 3)) (var 1)) (product (var 2) (var 4))) refl
    ∙ ap (λ n. n *ℤ pos g *ℤ (pos b' *ℤ pos e)) (quot-times s h gh.0)
    ∙ ap (λ n. n *ℤ (pos b' *ℤ pos e))
    (solve wholes (x.numerator ∷ y.numerator ∷ pos b' ∷ pos d' ∷ pos g ∷ [])
    (product (sum (product (var 0) (var 3)) (product (var 1) (var 2))) (var 4))
    (sum (product (var 0) (product (var 4) (var 3))) (product (var 1) (product (var 4) (var 2)))) refl
    ∙ ap₂ (λ m n. x.numerator *ℤ m +ℤ y.numerator *ℤ n) (ap pos (mul-div_cancel' g gg.1)) (ap pos (mul-div_cancel' g gg.0))
    )

pub number_sum : (x y : Ratio) → 0 < x.denominator → 0 < y.denominator → number (sum_of x y) ≡ rational_sum (number x) (number y)
number_sum x y fx fy =
    number_eq (sum_of x y) (unreduced_sum x y) (sum_positive x y fx fy) (pos_times x.denominator y.denominator fx fy) (sum_same x y) ∙ number_plus x y fx fy

pub fused_positive : (x a y : Ratio) → 0 < x.denominator → 0 < a.denominator → 0 < y.denominator → 0 < (fused x a y).denominator
fused_positive x a y fx fa fy = sum_positive x (product_of a y) fx (product_positive a y fa fy)

pub number_fused : (x a y : Ratio) → 0 < x.denominator → 0 < a.denominator → 0 < y.denominator
    → number (fused x a y) ≡ rational_sum (number x) (rational_product (number a) (number y))
number_fused x a y fx fa fy =
    number_sum x (product_of a y) fx (product_positive a y fa fy) ∙ ap (rational_sum (number x)) (number_product a y fa fy)

zero_number : (x : Ratio) → 0 < x.denominator → x.numerator ≡ pos 0 → number x ≡ rational_zero
zero_number x fx e = number_eq x (whole (pos 0)) fx (omega arith) (ap (λ n. n *ℤ pos 1) e ∙ solve wholes (pos x.denominator ∷ []) (product nothing unit) (product nothing (var 0)) refl) ∙ sym rational_zero-is

abs_zero : (z : ℤ) → unsigned_abs z ≡ 0 → z ≡ pos 0
abs_zero (pos n) e = ap pos e
abs_zero (negsuc n) e = absurd (omega arith)

pub none_number : (x : Ratio) → 0 < x.denominator → is_zero x ≡ true → number x ≡ rational_zero
none_number x fx e = zero_number x fx (abs_zero x.numerator (eqb-true (unsigned_abs x.numerator) 0 e))

-- ---- reciprocals

pub reciprocal_positive : (x : Ratio) → x.numerator ≢ pos 0 → 0 < (reciprocal_of x).denominator
reciprocal_positive x h = by_sign x.numerator x.denominator h
  where
    by_sign : (n : ℤ) (d : ℕ) → n ≢ pos 0 → 0 < (reciprocal_of (record { numerator = n; denominator = d })).denominator
    by_sign (pos zero) d h = absurd (h refl)
    by_sign (pos (suc n)) d h = omega arith
    by_sign (negsuc n) d h = omega arith

pub number_reciprocal : (x : Ratio) → 0 < x.denominator → x.numerator ≢ pos 0 → rational_product (number x) (number (reciprocal_of x)) ≡ rational_one
number_reciprocal x fx h =
    sym (number_times x (reciprocal_of x) fx (reciprocal_positive x h))
    ∙ number_eq (unreduced_product x (reciprocal_of x)) (whole (pos 1)) (pos_times x.denominator (reciprocal_of x).denominator fx (reciprocal_positive x h)) (omega arith)
    (product_with_reciprocal x)
    ∙ sym rational_one-is
