-- Sums and products of fractions in lowest terms: their values, and that they are in lowest terms.
use Rattle.std.proofs.Common.{◌≡◌, ℕ, zero, suc, ◌*◌, ◌/◌, ◌^◌, ◌<◌, ℤ, pos, ◌+ℤ◌, ◌*ℤ◌, neg_ℤ, unsigned_abs, sym, refl, ap, ap₂, ◌∙◌, subst, arith, Bool, true, false, cond, List, [], ◌∷◌, None, Some}
use Rattle.std.specs.Int.{IsGcd, ◌∣◌}
use Rattle.std.specs.Int.RustNames.{int_div}
use Rattle.std.proofs.Math.IntN.{*ℤ_comm, zero-*ℤ}
use Rattle.std.proofs.Math.Nat.{mul_comm, mul_assoc, mul-div_cancel', pos_of_dvd_of_pos, div-eq_of_eq-mul_right, div-le_self, dvd-mul_left_of_dvd}
use Rattle.std.proofs.lemmas.Nat.Gcd.{dvd_trans}
use Rattle.std.proofs.lemmas.Int.{ints, unsigned_abs-mul}
use Rattle.fraction128.proofs.Ring.{sum-times, times_assoc}
use Rattle.fraction128.proofs.Divisors.{Apart, Apart-swap, Apart-part, Apart-times, Apart-gcd, gcd-Apart, Apart-quotients, IsGcd-gcd_of, dvd_of_dvd-times, dvd_of_eq}
use Rattle.fraction128.proofs.Integers.{abs-times, abs-quot, quot-times, dvd_of_dvd-sum, times-pos}
use Rattle.std.proofs.lemmas.Bool.Decides.{nat_tests}
use Rattle.fraction128.specs.declared.range.Range.{Range}
use Rattle.fraction128.specs.Whole.{InRange, is_in_range, value_of, first_outside}
use Rattle.fraction128.specs.Gcd.{gcd_of}
use Rattle.fraction128.specs.Ratio.{IsFraction, Equals}
use Rattle.fraction128.specs.declared.ratio.Ratio.{Ratio}
use Rattle.fraction128.specs.Listed.{times, plus, sum_over, reduced_by, sum_of, sum_steps, product_of, product_steps}

-- the numerator of a sum shares nothing with the part of a denominator that the other lacks
sum-part : (a c : ℤ) (b b' d' : ℕ) → Apart (unsigned_abs a) b → b' ∣ b → Apart b' d' → Apart (unsigned_abs (a *ℤ pos d' +ℤ c *ℤ pos b')) b'
sum-part a c b b' d' alone part across = λ e p q.
    let of_rest : e ∣ unsigned_abs (c *ℤ pos b') = subst (λ n. e ∣ n) (sym (abs-times c b')) (dvd-mul_left_of_dvd e q (unsigned_abs c)) in
    let of_term : e ∣ unsigned_abs a * d' = subst (λ n. e ∣ n) (abs-times a d') (dvd_of_dvd-sum e (a *ℤ pos d') (c *ℤ pos b') p of_rest) in
    let from_a : Apart e (unsigned_abs a) = Apart-part b (unsigned_abs a) e (dvd_trans e q part) (Apart-swap (unsigned_abs a) b alone) in
    across e q (dvd_of_dvd-times e (unsigned_abs a) d' from_a of_term)

swap_sum : (x y : ℤ) → x +ℤ y ≡ y +ℤ x
swap_sum x y = omega (arith, ints)

-- what is left of the numerator shares nothing with the denominator
sum-lowest : (a c s' : ℤ) (b d b' d' g' h : ℕ) → Apart (unsigned_abs a) b → Apart (unsigned_abs c) d → b' ∣ b → d' ∣ d → Apart b' d'
    → unsigned_abs (a *ℤ pos d' +ℤ c *ℤ pos b') ≡ h * unsigned_abs s' → Apart (unsigned_abs s') g' → Apart (unsigned_abs s') (b' * (g' * d'))
sum-lowest a c s' b d b' d' g' h a_alone c_alone b_part d_part across e rest =
    let s = a *ℤ pos d' +ℤ c *ℤ pos b' in
    let part : unsigned_abs s' ∣ unsigned_abs s = dvd_of_eq (unsigned_abs s') h (unsigned_abs s) (e ∙ mul_comm h (unsigned_abs s')) in
    let by_b : Apart (unsigned_abs s) b' = sum-part a c b b' d' a_alone b_part across in
    let by_d : Apart (unsigned_abs s) d' =
    subst (λ z. Apart (unsigned_abs z) d') (swap_sum (c *ℤ pos b') (a *ℤ pos d')) (sum-part c a d d' b' c_alone d_part (Apart-swap b' d' across)) in
    Apart-times (unsigned_abs s') b' (g' * d') (Apart-part (unsigned_abs s) b' (unsigned_abs s') part by_b)
    (Apart-times (unsigned_abs s') g' d' rest (Apart-part (unsigned_abs s) d' (unsigned_abs s') part by_d))

sum-value : (a c s' : ℤ) (b d g b' d' g' h : ℕ) → b ≡ g * b' → d ≡ g * d' → g ≡ h * g' → a *ℤ pos d' +ℤ c *ℤ pos b' ≡ s' *ℤ pos h
    → s' *ℤ pos (b * d) ≡ (a *ℤ pos d +ℤ c *ℤ pos b) *ℤ pos (b' * (g' * d'))
sum-value a c s' b d g b' d' g' h eb ed eg es =
    sym
    (ap (λ z. z *ℤ pos D)
    (ap₂ (λ m n. a *ℤ pos m +ℤ c *ℤ pos n) (ed ∙ mul_comm g d') (eb ∙ mul_comm g b')
    ∙ ap₂ ◌+ℤ◌ (sym (times-pos a d' g)) (sym (times-pos c b' g))
    ∙ sym (sum-times (a *ℤ pos d') (c *ℤ pos b') (pos g))
    ∙ ap (λ z. z *ℤ pos g) es
    ∙ times-pos s' h g
    )
    ∙ times-pos s' (h * g) D
    ∙ ap (λ n. s' *ℤ pos n) (rw (eb, ed) regroup)
    )
  where
    D : ℕ
    D = b' * (g' * d')

    regroup : h * g * (b' * (g' * d')) ≡ g * b' * (g * d')
    regroup = rw eg (omega arith)

-- parts of two numbers that share nothing share nothing
parts_apart : (n whole m part : ℕ) → Apart n whole → m ∣ n → part ∣ whole → Apart part m
parts_apart n whole m part alone p q = Apart-part whole m part q (Apart-swap m whole (Apart-part n whole m p alone))

product-lowest : (a' c' a c : ℤ) (b d b' d' : ℕ) → Apart (unsigned_abs a) b → Apart (unsigned_abs c) d
    → unsigned_abs a' ∣ unsigned_abs a → unsigned_abs c' ∣ unsigned_abs c → b' ∣ b → d' ∣ d
    → Apart (unsigned_abs a') d' → Apart (unsigned_abs c') b' → Apart (unsigned_abs (a' *ℤ c')) (b' * d')
product-lowest a' c' a c b d b' d' a_alone c_alone a_part c_part b_part d_part across_a across_c =
    let m = unsigned_abs a' in
    let n = unsigned_abs c' in
    let of_b : Apart b' (m * n) = Apart-times b' m n (parts_apart (unsigned_abs a) b m b' a_alone a_part b_part) (Apart-swap n b' across_c) in
    let of_d : Apart d' (m * n) = Apart-times d' m n (Apart-swap m d' across_a) (parts_apart (unsigned_abs c) d n d' c_alone c_part d_part) in
    subst (λ k. Apart k (b' * d')) (sym (unsigned_abs-mul a' c'))
    (Apart-times (m * n) b' d' (Apart-swap b' (m * n) of_b) (Apart-swap d' (m * n) of_d))

product-value : (a' c' a c : ℤ) (b d b' d' u v : ℕ) → a ≡ a' *ℤ pos u → c ≡ c' *ℤ pos v → b ≡ v * b' → d ≡ u * d'
    → (a' *ℤ c') *ℤ pos (b * d) ≡ (a *ℤ c) *ℤ pos (b' * d')
product-value a' c' a c b d b' d' u v ea ec eb ed =
    sym
    (ap (λ z. z *ℤ pos (b' * d')) (ap₂ ◌*ℤ◌ ea ec ∙ four)
    ∙ times-pos (a' *ℤ c') (u * v) (b' * d')
    ∙ ap (λ n. (a' *ℤ c') *ℤ pos n) (rw (eb, ed) (omega arith))
    )
  where
    four : (a' *ℤ pos u) *ℤ (c' *ℤ pos v) ≡ (a' *ℤ c') *ℤ pos (u * v)
    four =
        times_assoc a' (pos u) (c' *ℤ pos v)
        ∙ ap (λ z. a' *ℤ z) (sym (times_assoc (pos u) c' (pos v)) ∙ ap (λ z. z *ℤ pos v) (*ℤ_comm (pos u) c') ∙ times-pos c' u v)
        ∙ sym (times_assoc a' c' (pos (u * v)))

pos_right : (m n : ℕ) → 0 < m * n → 0 < n
pos_right m zero h = omega arith
pos_right m (suc n) h = omega arith

pub pos_times : (m n : ℕ) → 0 < m → 0 < n → 0 < m * n
pos_times (suc m) (suc n) h k = omega arith
pos_times zero n h k = absurd (omega arith)
pos_times (suc m) zero h k = absurd (omega arith)

-- a step that stays in the range, and those after it
inside : (step : Range) (steps : List Range) → first_outside (step ∷ steps) ≡ None → InRange (value_of step) × (first_outside steps ≡ None)
inside step steps e = by_test (is_in_range (value_of step)) refl e
  where
    by_test : (t : Bool) → is_in_range (value_of step) ≡ t → cond t (first_outside steps) (Some step) ≡ None → InRange (value_of step) × (first_outside steps ≡ None)
    by_test true is e = (grind (arith, nat_tests), e)
    by_test false is e = absurd (cc)

pub inside_next : (step : Range) (steps : List Range) → InRange (value_of step) → first_outside (step ∷ steps) ≡ first_outside steps
inside_next step steps f = by_test (is_in_range (value_of step)) refl
  where
    by_test : (t : Bool) → is_in_range (value_of step) ≡ t → cond t (first_outside steps) (Some step) ≡ first_outside steps
    by_test true is = refl
    by_test false is = absurd (grind (arith, nat_tests))

pub outside_here : (step : Range) (steps : List Range) → (InRange (value_of step) → ⊥) → first_outside (step ∷ steps) ≡ Some step
outside_here step steps f = by_test (is_in_range (value_of step)) refl
  where
    by_test : (t : Bool) → is_in_range (value_of step) ≡ t → cond t (first_outside steps) (Some step) ≡ Some step
    by_test true is = absurd (f (grind (arith, nat_tests)))
    by_test false is = refl

-- the parts of a sum of two fractions
record SumParts (x y : Ratio) (g b' d' h g' : ℕ) (s' : ℤ) : Type 0 where
  b_is : x.denominator ≡ g * b'
  d_is : y.denominator ≡ g * d'
  across : Apart b' d'
  over : x.numerator *ℤ pos d' +ℤ y.numerator *ℤ pos b' ≡ s' *ℤ pos h
  g_is : g ≡ h * g'
  rest : Apart (unsigned_abs s') g'
  d_over_h : y.denominator / h ≡ g' * d'
  h_above : 0 < h

sum_parts : (x y : Ratio) → 0 < x.denominator → 0 < y.denominator
    → SumParts x y (gcd_of x.denominator y.denominator) (x.denominator / gcd_of x.denominator y.denominator) (y.denominator / gcd_of x.denominator y.denominator)
    (reduced_by x y) (gcd_of x.denominator y.denominator / reduced_by x y) (int_div (sum_over x y) (pos (reduced_by x y)))
unfolding sum_over reduced_by
sum_parts x y b_above d_above =
    let b = x.denominator in
    let d = y.denominator in
    let g = gcd_of b d in
    let gcd = IsGcd-gcd_of b d in
    let b' = b / g in
    let d' = d / g in
    let s = x.numerator *ℤ pos d' +ℤ y.numerator *ℤ pos b' in
    let h = gcd_of (unsigned_abs s) g in
    let gcd_s = IsGcd-gcd_of (unsigned_abs s) g in
    let g' = g / h in
    let s' = int_div s (pos h) in
    let g_above : 0 < g = pos_of_dvd_of_pos gcd.0 b_above in
    let above : 0 < h = pos_of_dvd_of_pos gcd_s.1 g_above in
    let of_b : b ≡ g * b' = sym (mul-div_cancel' g gcd.0) in
    let of_d : d ≡ g * d' = sym (mul-div_cancel' g gcd.1) in
    let of_g : g ≡ h * g' = sym (mul-div_cancel' h gcd_s.1) in
    let whole : s ≡ s' *ℤ pos h = sym (quot-times s h gcd_s.0) in
    let of_s : unsigned_abs s ≡ h * unsigned_abs s' = ap unsigned_abs whole ∙ abs-times s' h ∙ mul_comm (unsigned_abs s') h in
    record {
      b_is = of_b;
      d_is = of_d;
      across = Apart-quotients b d g b' d' gcd g_above of_b of_d;
      over = whole;
      g_is = of_g;
      rest = Apart-quotients (unsigned_abs s) g h (unsigned_abs s') g' gcd_s above of_s of_g;
      d_over_h = div-eq_of_eq-mul_right above (of_d ∙ ap (λ z. z * d') of_g ∙ mul_assoc h g' d');
      h_above = above;
    }

pub IsFraction-alone : (x : Ratio) → IsFraction x → Apart (unsigned_abs x.numerator) x.denominator
IsFraction-alone x f = Apart-gcd (unsigned_abs x.numerator) x.denominator f.lowest

quot_in : (s : ℤ) (h : ℕ) → InRange s → InRange (int_div s (pos h))
quot_in s h f = omega (arith, abs-quot s h, div-le_self (unsigned_abs s) h)

-- the listed answer is the sum, and a fraction
pub sum-is : (x y : Ratio) → IsFraction x → IsFraction y → first_outside (sum_steps x y) ≡ None
    → IsFraction (sum_of x y) × Equals (sum_of x y) (x.numerator *ℤ pos y.denominator +ℤ y.numerator *ℤ pos x.denominator) (x.denominator * y.denominator)
unfolding sum_over sum_of sum_steps
sum-is x y fx fy e =
    let g = gcd_of x.denominator y.denominator in
    let b' = x.denominator / g in
    let d' = y.denominator / g in
    let h = reduced_by x y in
    let g' = g / h in
    let s' = int_div (sum_over x y) (pos h) in
    let p = sum_parts x y fx.positive fy.positive in
    let one = times x.numerator (pos d') in
    let two = times y.numerator (pos b') in
    let three = plus (x.numerator *ℤ pos d') (y.numerator *ℤ pos b') in
    let four = times (pos b') (pos (y.denominator / h)) in
    let after = inside two (three ∷ four ∷ []) (inside one (two ∷ three ∷ four ∷ []) e).1 in
    let third = inside three (four ∷ []) after.1 in
    let last : InRange (pos b' *ℤ pos (y.denominator / h)) = (inside four [] third.1).0 in
    let of_s : unsigned_abs (x.numerator *ℤ pos d' +ℤ y.numerator *ℤ pos b') ≡ h * unsigned_abs s' =
    ap unsigned_abs p.over ∙ abs-times s' h ∙ mul_comm (unsigned_abs s') h in
    let apart : Apart (unsigned_abs s') (b' * (g' * d')) =
    sum-lowest x.numerator y.numerator s' x.denominator y.denominator b' d' g' h (IsFraction-alone x fx) (IsFraction-alone y fy)
    (dvd_of_eq b' g x.denominator (p.b_is ∙ mul_comm g b')) (dvd_of_eq d' g y.denominator (p.d_is ∙ mul_comm g d')) p.across of_s p.rest in
    let g_above : 0 < g = pos_of_dvd_of_pos (IsGcd-gcd_of x.denominator y.denominator).0 fx.positive in
    let b_above : 0 < b' = pos_right g b' (subst (λ n. 0 < n) p.b_is fx.positive) in
    let d_above : 0 < y.denominator / h = subst (λ n. 0 < n) (sym p.d_over_h) (pos_times g' d' (pos_right h g' (subst (λ n. 0 < n) p.g_is g_above)) (pos_right g d' (subst (λ n. 0 < n) p.d_is fy.positive))) in (
      record {
        positive = pos_times b' (y.denominator / h) b_above d_above;
        lowest = gcd-Apart (unsigned_abs s') (b' * (y.denominator / h)) (subst (λ n. Apart (unsigned_abs s') (b' * n)) (sym p.d_over_h) apart);
        numerator_in = quot_in (sum_over x y) h third.0;
        denominator_in = last;
      },
      sum-value x.numerator y.numerator s' x.denominator y.denominator g b' d' g' h p.b_is p.d_is p.g_is p.over
          ∙ ap (λ n. (x.numerator *ℤ pos y.denominator +ℤ y.numerator *ℤ pos x.denominator) *ℤ pos (b' * n)) (sym p.d_over_h),
    )

pub product-is : (x y : Ratio) → IsFraction x → IsFraction y → first_outside (product_steps x y) ≡ None
    → IsFraction (product_of x y) × Equals (product_of x y) (x.numerator *ℤ y.numerator) (x.denominator * y.denominator)
unfolding product_of product_steps
product-is x y fx fy e =
    let a = x.numerator in
    let b = x.denominator in
    let c = y.numerator in
    let d = y.denominator in
    let u = gcd_of (unsigned_abs a) d in
    let v = gcd_of (unsigned_abs c) b in
    let gcd_u = IsGcd-gcd_of (unsigned_abs a) d in
    let gcd_v = IsGcd-gcd_of (unsigned_abs c) b in
    let a' = int_div a (pos u) in
    let c' = int_div c (pos v) in
    let b' = b / v in
    let d' = d / u in
    let one = times a' c' in
    let two = times (pos b') (pos d') in
    let first = inside one (two ∷ []) e in
    let second : InRange (pos b' *ℤ pos d') = (inside two [] first.1).0 in
    let u_above : 0 < u = pos_of_dvd_of_pos gcd_u.1 fy.positive in
    let v_above : 0 < v = pos_of_dvd_of_pos gcd_v.1 fx.positive in
    let a_is : a ≡ a' *ℤ pos u = sym (quot-times a u gcd_u.0) in
    let c_is : c ≡ c' *ℤ pos v = sym (quot-times c v gcd_v.0) in
    let b_is : b ≡ v * b' = sym (mul-div_cancel' v gcd_v.1) in
    let d_is : d ≡ u * d' = sym (mul-div_cancel' u gcd_u.1) in
    let abs_a : unsigned_abs a ≡ u * unsigned_abs a' = ap unsigned_abs a_is ∙ abs-times a' u ∙ mul_comm (unsigned_abs a') u in
    let abs_c : unsigned_abs c ≡ v * unsigned_abs c' = ap unsigned_abs c_is ∙ abs-times c' v ∙ mul_comm (unsigned_abs c') v in
    let apart : Apart (unsigned_abs (a' *ℤ c')) (b' * d') =
    product-lowest a' c' a c b d b' d' (IsFraction-alone x fx) (IsFraction-alone y fy)
    (dvd_of_eq (unsigned_abs a') u (unsigned_abs a) (abs_a ∙ mul_comm u (unsigned_abs a'))) (dvd_of_eq (unsigned_abs c') v (unsigned_abs c) (abs_c ∙ mul_comm v (unsigned_abs c')))
    (dvd_of_eq b' v b (b_is ∙ mul_comm v b')) (dvd_of_eq d' u d (d_is ∙ mul_comm u d'))
    (Apart-quotients (unsigned_abs a) d u (unsigned_abs a') d' gcd_u u_above abs_a d_is)
    (Apart-quotients (unsigned_abs c) b v (unsigned_abs c') b' gcd_v v_above abs_c b_is) in (
      record {
        positive = pos_times b' d' (pos_right v b' (subst (λ n. 0 < n) b_is fx.positive)) (pos_right u d' (subst (λ n. 0 < n) d_is fy.positive));
        lowest = gcd-Apart (unsigned_abs (a' *ℤ c')) (b' * d') apart;
        numerator_in = first.0;
        denominator_in = second;
      },
      product-value a' c' a c b d b' d' u v a_is c_is b_is d_is,
    )

pub IsFraction-whole : (n : ℤ) → InRange n → (let r : Ratio = record { numerator = n; denominator = 1 } in IsFraction r)
IsFraction-whole n h =
    record { positive = omega arith; lowest = gcd-Apart (unsigned_abs n) 1 (λ e p q. q); numerator_in = h; denominator_in = omega arith }

-- ---- reduction, reciprocal, difference

pub reduced-is : (n q : ℤ) (d g : ℕ) → InRange n → 0 < d → d < 2 ^ 127 → g ≡ gcd_of (unsigned_abs n) d → q ≡ int_div n (pos g)
    → (let r : Ratio = record { numerator = q; denominator = d / g } in Equals r n d × IsFraction r)
reduced-is n q d g n_in d_above d_in eg eq =
    let gcd : IsGcd (unsigned_abs n) d g = rw eg (IsGcd-gcd_of (unsigned_abs n) d) in
    let d' = d / g in
    let g_above : 0 < g = pos_of_dvd_of_pos gcd.1 d_above in
    let d_is : d ≡ g * d' = sym (mul-div_cancel' g gcd.1) in
    let n_is : n ≡ q *ℤ pos g = sym (ap (λ z. z *ℤ pos g) eq ∙ quot-times n g gcd.0) in
    let abs_n : unsigned_abs n ≡ g * unsigned_abs q = ap unsigned_abs n_is ∙ abs-times q g ∙ mul_comm (unsigned_abs q) g in (
      ap (λ m. q *ℤ pos m) d_is ∙ sym (times-pos q g d') ∙ ap (λ z. z *ℤ pos d') (sym n_is),
      record {
        positive = pos_right g d' (subst (λ m. 0 < m) d_is d_above);
        lowest = gcd-Apart (unsigned_abs q) d' (Apart-quotients (unsigned_abs n) d g (unsigned_abs q) d' gcd g_above abs_n d_is);
        numerator_in = subst InRange (sym eq) (quot_in n g n_in);
        denominator_in = omega (arith, div-le_self d g);
      },
    )

pub reciprocal-lowest : (x r : Ratio) → IsFraction x → 0 < unsigned_abs x.numerator → unsigned_abs r.numerator ≡ x.denominator → r.denominator ≡ unsigned_abs x.numerator → IsFraction r
reciprocal-lowest x r f some en ed =
    record {
      positive = subst (λ m. 0 < m) (sym ed) some;
      lowest = gcd-Apart (unsigned_abs r.numerator) r.denominator (rw (en, ed) (Apart-swap (unsigned_abs x.numerator) x.denominator (IsFraction-alone x f)));
      numerator_in = subst (λ m. m < 2 ^ 127) (sym en) f.denominator_in;
      denominator_in = subst (λ m. m < 2 ^ 127) (sym ed) f.numerator_in;
    }

pub neg-times : (z k : ℤ) → neg_ℤ z *ℤ k ≡ neg_ℤ (z *ℤ k)
neg-times z k =
    let none : z +ℤ neg_ℤ z ≡ pos 0 = omega (arith, ints) in
    let parts : z *ℤ k +ℤ neg_ℤ z *ℤ k ≡ pos 0 = sym (sum-times z (neg_ℤ z) k) ∙ ap (λ n. n *ℤ k) none ∙ zero-*ℤ k in
    omega (arith, ints, parts)
