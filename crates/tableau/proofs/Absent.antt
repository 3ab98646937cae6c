-- Nothing times a number, and a number and nothing, by the listed steps: entries that are absent count as 0.
use Rattle.std.proofs.Common.{◌≡◌, ℕ, ℤ, pos, negsuc, suc, ◌*◌, ◌/◌, ◌<◌, ◌^◌, ◌+ℤ◌, ◌*ℤ◌, neg_ℤ, unsigned_abs, sym, ap, ap₂, ◌∙◌, subst, refl, arith, List, [], ◌∷◌, Bool, true, false, Option, Some, None, ◌&&◌}
use Rattle.std.proofs.lemmas.Bool.Decides.{nat_tests}
use Rattle.std.specs.Int.RustNames.{int_div}
use Rattle.std.proofs.Math.Nat.{div-one, div_self, zero-div, mul-one, one-mul}
use Rattle.std.proofs.Math.IntN.{*ℤ_comm}
use Rattle.std.proofs.lemmas.Int.{ints}
use Rattle.std.proofs.lemmas.Nat.Gcd.{IsGcd-from_zero, IsGcd-swap}
use Rattle.fraction128.specs.declared.ratio.Ratio.{Ratio}
use Rattle.fraction128.specs.Whole.{InRange, is_in_range, value_of, first_outside}
use Rattle.fraction128.specs.declared.range.Range.{Range}
use Rattle.fraction128.specs.Ratio.{IsFraction}
use Rattle.fraction128.specs.Gcd.{gcd_of}
use Rattle.fraction128.specs.Listed.{sum_of, sum_over, sum_steps, reduced_by, product_of, product_steps, fused, negation_of, times, plus}
use Rattle.fraction128.specs.Number.{whole}
use Rattle.fraction128.proofs.Divisors.{gcd-Apart, gcd_is}
use Rattle.fraction128.proofs.LowestTerms.{product-is, sum-is}
use Rattle.fraction128.specs.Grid.{fit, fused_fits}

quot_one : (z : ℤ) → int_div z (pos 1) ≡ z
quot_one (pos a) = ap pos (div-one a)
quot_one (negsuc a) = ap (λ n. neg_ℤ (pos n)) (div-one (suc a))

pub gcd_one : (a : ℕ) → gcd_of a 1 ≡ 1
gcd_one a = gcd-Apart a 1 (λ e p q. q)

one_gcd : (a : ℕ) → gcd_of 1 a ≡ 1
one_gcd a = gcd-Apart 1 a (λ e p q. p)

pub gcd_zero_left : (x : ℕ) → gcd_of 0 x ≡ x
gcd_zero_left x = gcd_is 0 x x (IsGcd-swap x 0 x (IsGcd-from_zero x 0 refl))

none_times : (z : ℤ) → pos 0 *ℤ z ≡ pos 0
none_times z = grind (arith, ints)

times_none : (z : ℤ) → z *ℤ pos 0 ≡ pos 0
times_none z = *ℤ_comm z (pos 0) ∙ none_times z

times_one : (z : ℤ) → z *ℤ pos 1 ≡ z
times_one z = grind (arith, ints)

plus_none : (z : ℤ) → z +ℤ pos 0 ≡ z
plus_none z = omega (arith, ints)

none_plus : (z : ℤ) → pos 0 +ℤ z ≡ z
none_plus z = omega (arith, ints)

zero_quot : (d : ℕ) → int_div (pos 0) (pos d) ≡ pos 0
zero_quot d = ap pos (zero-div d)

pub product_none : (t : Ratio) → 0 < t.denominator → product_of (whole (pos 0)) t ≡ whole (pos 0)
unfolding product_of
product_none t f =
    ap₂ (λ n d. let r : Ratio = record { numerator = n; denominator = d } in r)
    (ap (λ z. z *ℤ int_div t.numerator (pos (gcd_of (unsigned_abs t.numerator) 1))) (zero_quot (gcd_of 0 t.denominator)) ∙ none_times (int_div t.numerator (pos (gcd_of (unsigned_abs t.numerator) 1))))
    (ap₂ (λ u v. 1 / v * (t.denominator / u)) (gcd_zero_left t.denominator) (gcd_one (unsigned_abs t.numerator)) ∙ ap (λ n. 1 / 1 * n) (div_self f))

pub times_absent : (t : Ratio) → 0 < t.denominator → product_of t (whole (pos 0)) ≡ whole (pos 0)
unfolding product_of
times_absent t f =
    ap₂ (λ n d. let r : Ratio = record { numerator = n; denominator = d } in r)
    (ap (λ z. int_div t.numerator (pos (gcd_of (unsigned_abs t.numerator) 1)) *ℤ z) (zero_quot (gcd_of 0 t.denominator)) ∙ times_none (int_div t.numerator (pos (gcd_of (unsigned_abs t.numerator) 1))))
    (ap₂ (λ u v. t.denominator / u * (1 / v)) (gcd_zero_left t.denominator) (gcd_one (unsigned_abs t.numerator)) ∙ ap (λ n. n * (1 / 1)) (div_self f))

over_none : (x : Ratio) → sum_over x (whole (pos 0)) ≡ x.numerator
unfolding sum_over
over_none x =
    ap₂ (λ g h. x.numerator *ℤ pos (1 / g) +ℤ pos 0 *ℤ pos (x.denominator / h)) (gcd_one x.denominator) (gcd_one x.denominator)
    ∙ ap₂ ◌+ℤ◌ (times_one x.numerator) (none_times (pos (x.denominator / 1))) ∙ plus_none x.numerator

by_one : (x : Ratio) → reduced_by x (whole (pos 0)) ≡ 1
unfolding reduced_by
by_one x = ap (gcd_of (unsigned_abs (sum_over x (whole (pos 0))))) (gcd_one x.denominator) ∙ gcd_one (unsigned_abs (sum_over x (whole (pos 0))))

pub sum_none : (x : Ratio) → sum_of x (whole (pos 0)) ≡ x
unfolding sum_of
sum_none x =
    ap₂ (λ n d. let r : Ratio = record { numerator = n; denominator = d } in r)
    (ap₂ (λ z h. int_div z (pos h)) (over_none x) (by_one x) ∙ quot_one x.numerator)
    (ap₂ (λ g h. x.denominator / g * (1 / h)) (gcd_one x.denominator) (by_one x) ∙ mul-one (x.denominator / 1) ∙ div-one x.denominator)

over_none_left : (x : Ratio) → sum_over (whole (pos 0)) x ≡ x.numerator
unfolding sum_over
over_none_left x =
    ap₂ (λ g h. pos 0 *ℤ pos (x.denominator / g) +ℤ x.numerator *ℤ pos (1 / h)) (one_gcd x.denominator) (one_gcd x.denominator)
    ∙ ap₂ ◌+ℤ◌ (none_times (pos (x.denominator / 1))) (times_one x.numerator) ∙ none_plus x.numerator

by_one_left : (x : Ratio) → reduced_by (whole (pos 0)) x ≡ 1
unfolding reduced_by
by_one_left x = ap (gcd_of (unsigned_abs (sum_over (whole (pos 0)) x))) (one_gcd x.denominator) ∙ gcd_one (unsigned_abs (sum_over (whole (pos 0)) x))

pub none_sum : (x : Ratio) → sum_of (whole (pos 0)) x ≡ x
unfolding sum_of
none_sum x =
    ap₂ (λ n d. let r : Ratio = record { numerator = n; denominator = d } in r)
    (ap₂ (λ z h. int_div z (pos h)) (over_none_left x) (by_one_left x) ∙ quot_one x.numerator)
    (ap₂ (λ g h. 1 / g * (x.denominator / h)) (one_gcd x.denominator) (by_one_left x) ∙ one-mul (x.denominator / 1) ∙ div-one x.denominator)

-- the row's entry where the form has none, and the other way round
pub fused_absent : (x a : Ratio) → 0 < a.denominator → fused x a (whole (pos 0)) ≡ x
fused_absent x a f = ap (sum_of x) (times_absent a f) ∙ sum_none x

pub fused_none : (x t : Ratio) → 0 < t.denominator → fused x (whole (pos 0)) t ≡ x
fused_none x t f = ap (sum_of x) (product_none t f) ∙ sum_none x

pub absent_fused : (a z : Ratio) → fused (whole (pos 0)) a z ≡ product_of a z
absent_fused a z = none_sum (product_of a z)

-- ---- these steps stay in the range

in_range : (z : ℤ) → InRange z → is_in_range z ≡ true
in_range z h = grind (arith, nat_tests)

two_fit : (a b : Range) → is_in_range (value_of a) ≡ true → is_in_range (value_of b) ≡ true → fit (a ∷ b ∷ []) ≡ true
two_fit a b e f = rw e (rw f refl)

four_fit : (a b c d : Range) → is_in_range (value_of a) ≡ true → is_in_range (value_of b) ≡ true → is_in_range (value_of c) ≡ true → is_in_range (value_of d) ≡ true
    → fit (a ∷ b ∷ c ∷ d ∷ []) ≡ true
four_fit a b c d e f g h = rw e (rw f (rw g (rw h refl)))

one_times : (z : ℤ) → pos 1 *ℤ z ≡ z
one_times z = *ℤ_comm (pos 1) z ∙ times_one z

none_product_fits : (t : Ratio) → 0 < t.denominator → fit (product_steps (whole (pos 0)) t) ≡ true
unfolding product_steps
none_product_fits t f =
    two_fit
    (times (int_div (pos 0) (pos (gcd_of 0 t.denominator))) (int_div t.numerator (pos (gcd_of (unsigned_abs t.numerator) 1))))
    (times (pos (1 / gcd_of (unsigned_abs t.numerator) 1)) (pos (t.denominator / gcd_of 0 t.denominator)))
    (ap is_in_range (ap (λ z. z *ℤ int_div t.numerator (pos (gcd_of (unsigned_abs t.numerator) 1))) (zero_quot (gcd_of 0 t.denominator)) ∙ none_times (int_div t.numerator (pos (gcd_of (unsigned_abs t.numerator) 1)))))
    (ap is_in_range (ap₂ (λ u v. pos (1 / v) *ℤ pos (t.denominator / u)) (gcd_zero_left t.denominator) (gcd_one (unsigned_abs t.numerator)) ∙ ap (λ n. pos (1 / 1) *ℤ pos n) (div_self f)))

product_none_fits : (t : Ratio) → 0 < t.denominator → fit (product_steps t (whole (pos 0))) ≡ true
unfolding product_steps
product_none_fits t f =
    two_fit
    (times (int_div t.numerator (pos (gcd_of (unsigned_abs t.numerator) 1))) (int_div (pos 0) (pos (gcd_of 0 t.denominator))))
    (times (pos (t.denominator / gcd_of 0 t.denominator)) (pos (1 / gcd_of (unsigned_abs t.numerator) 1)))
    (ap is_in_range (ap (λ z. int_div t.numerator (pos (gcd_of (unsigned_abs t.numerator) 1)) *ℤ z) (zero_quot (gcd_of 0 t.denominator)) ∙ times_none (int_div t.numerator (pos (gcd_of (unsigned_abs t.numerator) 1)))))
    (ap is_in_range (ap₂ (λ u v. pos (t.denominator / u) *ℤ pos (1 / v)) (gcd_zero_left t.denominator) (gcd_one (unsigned_abs t.numerator)) ∙ ap (λ n. pos n *ℤ pos (1 / 1)) (div_self f)))

sum_none_fits : (x : Ratio) → IsFraction x → fit (sum_steps x (whole (pos 0))) ≡ true
unfolding sum_steps
sum_none_fits x fx =
    four_fit
    (times x.numerator (pos (1 / gcd_of x.denominator 1)))
    (times (pos 0) (pos (x.denominator / gcd_of x.denominator 1)))
    (plus (x.numerator *ℤ pos (1 / gcd_of x.denominator 1)) (pos 0 *ℤ pos (x.denominator / gcd_of x.denominator 1)))
    (times (pos (x.denominator / gcd_of x.denominator 1)) (pos (1 / reduced_by x (whole (pos 0)))))
    (ap is_in_range first ∙ in_range x.numerator fx.numerator_in)
    (ap is_in_range (none_times (pos (x.denominator / gcd_of x.denominator 1))))
    (ap is_in_range (ap₂ ◌+ℤ◌ first (none_times (pos (x.denominator / gcd_of x.denominator 1))) ∙ plus_none x.numerator) ∙ in_range x.numerator fx.numerator_in)
    (ap is_in_range (ap₂ (λ g h. pos (x.denominator / g) *ℤ pos (1 / h)) (gcd_one x.denominator) (by_one x) ∙ times_one (pos (x.denominator / 1)) ∙ ap pos (div-one x.denominator))
    ∙ in_range (pos x.denominator) fx.denominator_in)
  where
    first : x.numerator *ℤ pos (1 / gcd_of x.denominator 1) ≡ x.numerator
    first = ap (λ g. x.numerator *ℤ pos (1 / g)) (gcd_one x.denominator) ∙ times_one x.numerator

none_sum_fits : (x : Ratio) → IsFraction x → fit (sum_steps (whole (pos 0)) x) ≡ true
unfolding sum_steps
none_sum_fits x fx =
    four_fit
    (times (pos 0) (pos (x.denominator / gcd_of 1 x.denominator)))
    (times x.numerator (pos (1 / gcd_of 1 x.denominator)))
    (plus (pos 0 *ℤ pos (x.denominator / gcd_of 1 x.denominator)) (x.numerator *ℤ pos (1 / gcd_of 1 x.denominator)))
    (times (pos (1 / gcd_of 1 x.denominator)) (pos (x.denominator / reduced_by (whole (pos 0)) x)))
    (ap is_in_range (none_times (pos (x.denominator / gcd_of 1 x.denominator))))
    (ap is_in_range first ∙ in_range x.numerator fx.numerator_in)
    (ap is_in_range (ap₂ ◌+ℤ◌ (none_times (pos (x.denominator / gcd_of 1 x.denominator))) first ∙ none_plus x.numerator) ∙ in_range x.numerator fx.numerator_in)
    (ap is_in_range (ap₂ (λ g h. pos (1 / g) *ℤ pos (x.denominator / h)) (one_gcd x.denominator) (by_one_left x) ∙ one_times (pos (x.denominator / 1)) ∙ ap pos (div-one x.denominator))
    ∙ in_range (pos x.denominator) fx.denominator_in)
  where
    first : x.numerator *ℤ pos (1 / gcd_of 1 x.denominator) ≡ x.numerator
    first = ap (λ g. x.numerator *ℤ pos (1 / g)) (one_gcd x.denominator) ∙ times_one x.numerator

pub fit_false : (steps : List Range) (r : Range) → first_outside steps ≡ Some r → fit steps ≡ false
fit_false steps r e = rw e refl

-- by the tests of a list, and the number that a call names
pub fit_by_none : (steps : List Range) → first_outside steps ≡ None → fit steps ≡ true
fit_by_none steps e = rw e refl

pub none_outside : (steps : List Range) → fit steps ≡ true → first_outside steps ≡ None
none_outside steps e = by_test (first_outside steps) refl
  where
    by_test : (o : Option Range) → first_outside steps ≡ o → o ≡ None
    by_test None p = refl
    by_test (Some r) p = absurd (let f : true ≡ false = sym e ∙ fit_false steps r p in cc)

pub and_parts : (p q : Bool) → (p && q) ≡ true → (p ≡ true) × (q ≡ true)
and_parts true q e = (refl, e)
and_parts false q e = absurd (let f : false ≡ true = e in cc)

and_when : (p q : Bool) → (p ≡ true → q ≡ true) → (p && q) ≡ p
and_when true q h = h refl
and_when false q h = refl

pub fused_absent_fits : (x a : Ratio) → IsFraction x → 0 < a.denominator → fused_fits x a (whole (pos 0)) ≡ true
fused_absent_fits x a fx f = ap₂ ◌&&◌ (product_none_fits a f) (ap (λ z. fit (sum_steps x z)) (times_absent a f) ∙ sum_none_fits x fx)

pub fused_none_fits : (x t : Ratio) → IsFraction x → 0 < t.denominator → fused_fits x (whole (pos 0)) t ≡ true
fused_none_fits x t fx f = ap₂ ◌&&◌ (none_product_fits t f) (ap (λ z. fit (sum_steps x z)) (product_none t f) ∙ sum_none_fits x fx)

pub none_product_in : (t : Ratio) → 0 < t.denominator → fit (product_steps (whole (pos 0)) t) ≡ true
none_product_in t f = none_product_fits t f

pub absent_fused_fits : (a z : Ratio) → IsFraction a → IsFraction z → fused_fits (whole (pos 0)) a z ≡ fit (product_steps a z)
absent_fused_fits a z fa fz =
    and_when (fit (product_steps a z)) (fit (sum_steps (whole (pos 0)) (product_of a z)))
    (λ e. none_sum_fits (product_of a z) (product-is a z fa fz (none_outside (product_steps a z) e)).0)

pub product_fraction : (x y : Ratio) → IsFraction x → IsFraction y → fit (product_steps x y) ≡ true → IsFraction (product_of x y)
product_fraction x y fx fy e = (product-is x y fx fy (none_outside (product_steps x y) e)).0

pub fused_fraction : (x a z : Ratio) → IsFraction x → IsFraction a → IsFraction z → fused_fits x a z ≡ true → IsFraction (fused x a z)
fused_fraction x a z fx fa fz e =
    let p = and_parts (fit (product_steps a z)) (fit (sum_steps x (product_of a z))) e in
    (sum-is x (product_of a z) fx (product_fraction a z fa fz p.0) (none_outside (sum_steps x (product_of a z)) p.1)).0

pub negation_fraction : (x : Ratio) → IsFraction x → IsFraction (negation_of x)
negation_fraction x f =
    record {
      positive = f.positive;
      lowest = ap (λ n. gcd_of n x.denominator) (same x.numerator) ∙ f.lowest;
      numerator_in = subst (λ n. n < 2 ^ 127) (sym (same x.numerator)) f.numerator_in;
      denominator_in = f.denominator_in;
    }
  where
    same : (z : ℤ) → unsigned_abs (neg_ℤ z) ≡ unsigned_abs z
    same z = omega (arith, ints)

pub zero_fraction : IsFraction (whole (pos 0))
zero_fraction = record { positive = omega arith; lowest = gcd_one 0; numerator_in = omega arith; denominator_in = omega arith }

pub minus_one_fraction : IsFraction (whole (negsuc 0))
minus_one_fraction = record { positive = omega arith; lowest = gcd_one 1; numerator_in = omega arith; denominator_in = omega arith }
