-- The order of whole and rational numbers.
use Rattle.std.proofs.Common.{◌≡◌, ℕ, zero, suc, ◌*◌, ◌<◌, ℤ, pos, negsuc, ◌+ℤ◌, ◌-ℤ◌, ◌*ℤ◌, ◌≤ℤ◌, ◌<ℤ◌, neg_ℤ, unsigned_abs, sym, ap, ap₂, ◌∙◌, subst, arith, refl, [], ◌∷◌, Bool, true, false}
use Rattle.std.specs.Prelude.{int_lt}
use Rattle.std.proofs.lemmas.Int.{ints}
use Rattle.fraction128.specs.declared.ratio.Ratio.{Ratio}
use Rattle.fraction128.specs.Listed.{negation_of}
use Rattle.fraction128.proofs.LowestTerms.{pos_times}
use Rattle.fraction128.specs.Number.{whole, unreduced_sum, unreduced_product, is_less}
use Rattle.fraction128.proofs.RingEquations.{var, sum, product, minus, nothing, unit, solve}
use Rattle.fraction128.proofs.WholeNumbers.{wholes}
use Rattle.fraction128.proofs.RationalRing.{Rational, number, number_same, number_neg, number_plus, number_times, number_of, rational_sum, rational_product, rational_negation, rational_zero, rational_zero-is, rational_sum-is}

-- ---- whole numbers

difference : (a b : ℤ) → a ≤ℤ b → b ≡ a +ℤ pos (unsigned_abs (b -ℤ a))
difference a b h = let e : b -ℤ a ≡ pos (unsigned_abs (b -ℤ a)) = above (b -ℤ a) (omega (arith, ints)) in omega (arith, ints, e)
  where
    above : (z : ℤ) → pos 0 ≤ℤ z → z ≡ pos (unsigned_abs z)
    above (pos n) h = refl
    above (negsuc n) h = absurd (omega (arith, ints))

pub mul_mono : (a b : ℤ) (d : ℕ) → a ≤ℤ b → (a *ℤ pos d) ≤ℤ (b *ℤ pos d)
mul_mono a b d h =
    let m = unsigned_abs (b -ℤ a) in
    let parts : b *ℤ pos d ≡ a *ℤ pos d +ℤ pos (m * d) =
    ap (λ z. z *ℤ pos d) (difference a b h)
    ∙ solve wholes (a ∷ pos m ∷ pos d ∷ []) (product (sum (var 0) (var 1)) (var 2)) (sum (product (var 0) (var 2)) (product (var 1) (var 2))) refl in
    omega (arith, ints, parts)

pub mul_strict : (a b : ℤ) (d : ℕ) → 0 < d → a <ℤ b → (a *ℤ pos d) <ℤ (b *ℤ pos d)
mul_strict a b d above h =
    let le : (a +ℤ pos 1) ≤ℤ b = omega (arith, ints) in
    let m = unsigned_abs (b -ℤ (a +ℤ pos 1)) in
    let parts : b *ℤ pos d ≡ a *ℤ pos d +ℤ pos d +ℤ pos (m * d) =
    ap (λ z. z *ℤ pos d) (difference (a +ℤ pos 1) b le)
    ∙ solve wholes (a ∷ pos m ∷ pos d ∷ []) (product (sum (sum (var 0) unit) (var 1)) (var 2)) (sum (sum (product (var 0) (var 2)) (var 2)) (product (var 1) (var 2))) refl in
    omega (arith, ints, parts)

pub none_times : (d : ℕ) → pos 0 *ℤ pos d ≡ pos 0
none_times d = solve wholes (pos d ∷ []) (product nothing (var 0)) nothing refl

pub times_one : (z : ℤ) → z *ℤ pos 1 ≡ z
times_one z = solve wholes (z ∷ []) (product (var 0) unit) (var 0) refl

-- ---- the floor decides

pub floor_less : (x : Ratio) (f k : ℤ) → (f *ℤ pos x.denominator) ≤ℤ x.numerator → x.numerator <ℤ ((f +ℤ pos 1) *ℤ pos x.denominator) → int_lt f k ≡ is_less x (whole k)
floor_less x f k low high = by_test (int_lt f k) refl
  where
    by_test : (t : Bool) → int_lt f k ≡ t → t ≡ is_less x (whole k)
    by_test true e =
        let le : (f +ℤ pos 1) ≤ℤ k = grind (arith, ints) in
        let m : ((f +ℤ pos 1) *ℤ pos x.denominator) ≤ℤ (k *ℤ pos x.denominator) = mul_mono (f +ℤ pos 1) k x.denominator le in
        let less : (x.numerator *ℤ pos 1) <ℤ (k *ℤ pos x.denominator) = omega (arith, ints, low, high, m, times_one x.numerator) in
        grind (arith, ints)
    by_test false e =
        let le : k ≤ℤ f = grind (arith, ints) in
        let m : (k *ℤ pos x.denominator) ≤ℤ (f *ℤ pos x.denominator) = mul_mono k f x.denominator le in
        let least : (k *ℤ pos x.denominator) ≤ℤ (x.numerator *ℤ pos 1) = omega (arith, ints, low, high, m, times_one x.numerator) in
        grind (arith, ints)

-- the same from above, by the negation
pub floor_more : (x : Ratio) (m k : ℤ) → (m *ℤ pos x.denominator) ≤ℤ neg_ℤ x.numerator → neg_ℤ x.numerator <ℤ ((m +ℤ pos 1) *ℤ pos x.denominator)
    → int_lt k (neg_ℤ m) ≡ is_less (whole k) x
floor_more x m k low high =
    turned k m ∙ floor_less (negation_of x) m (neg_ℤ k) low high ∙ back
  where
    turned : (a b : ℤ) → int_lt a (neg_ℤ b) ≡ int_lt b (neg_ℤ a)
    turned a b = grind (arith, ints)

    both : (a b : ℤ) → int_lt (neg_ℤ a) (neg_ℤ b) ≡ int_lt b a
    both a b = grind (arith, ints)

    minus_one : (a b : ℤ) → neg_ℤ a *ℤ b ≡ neg_ℤ (a *ℤ b)
    minus_one a b = solve wholes (a ∷ b ∷ []) (product (minus (var 0)) (var 1)) (minus (product (var 0) (var 1))) refl

    back : int_lt (neg_ℤ x.numerator *ℤ pos 1) (neg_ℤ k *ℤ pos x.denominator) ≡ int_lt (k *ℤ pos x.denominator) (x.numerator *ℤ pos 1)
    back = ap₂ int_lt (minus_one x.numerator (pos 1)) (minus_one k (pos x.denominator)) ∙ both (x.numerator *ℤ pos 1) (k *ℤ pos x.denominator)

-- ---- signs of rational numbers

abbrev pub NonPos : Rational → Type 0
NonPos p = p.0.numerator ≤ℤ pos 0

-- the sign of the numerator of a fraction is that of its number
nonpos_number : (x : Ratio) → 0 < x.denominator → x.numerator ≤ℤ pos 0 → NonPos (number x)
nonpos_number x f h =
    by_sign (number x).0.numerator refl
  where
    by_sign : (z : ℤ) → (number x).0.numerator ≡ z → z ≤ℤ pos 0
    by_sign (pos zero) e = omega (arith, ints)
    by_sign (negsuc n) e = omega (arith, ints)
    by_sign (pos (suc n)) e =
        let same : pos (suc n) *ℤ pos x.denominator ≡ x.numerator *ℤ pos (number x).0.denominator = ap (λ z. z *ℤ pos x.denominator) (sym e) ∙ number_same x f in
        let le : (x.numerator *ℤ pos (number x).0.denominator) ≤ℤ (pos 0 *ℤ pos (number x).0.denominator) = mul_mono x.numerator (pos 0) (number x).0.denominator h in
        let above : 0 < suc n * x.denominator = pos_times (suc n) x.denominator (omega arith) f in
        absurd (omega (arith, ints, same, le, above, none_times (number x).0.denominator))

-- and back
number_nonpos : (x : Ratio) → 0 < x.denominator → NonPos (number x) → x.numerator ≤ℤ pos 0
number_nonpos x f h = by_sign x.numerator refl
  where
    by_sign : (z : ℤ) → x.numerator ≡ z → z ≤ℤ pos 0
    by_sign (pos zero) e = omega (arith, ints)
    by_sign (negsuc n) e = omega (arith, ints)
    by_sign (pos (suc n)) e =
        let same : (number x).0.numerator *ℤ pos x.denominator ≡ pos (suc n) *ℤ pos (number x).0.denominator = number_same x f ∙ ap (λ z. z *ℤ pos (number x).0.denominator) e in
        let le : ((number x).0.numerator *ℤ pos x.denominator) ≤ℤ (pos 0 *ℤ pos x.denominator) = mul_mono (number x).0.numerator (pos 0) x.denominator h in
        let above : 0 < suc n * (number x).0.denominator = pos_times (suc n) (number x).0.denominator (omega arith) (number x).1.0 in
        absurd (omega (arith, ints, same, le, above, none_times x.denominator))

pub nonpos_plus : (p q : Rational) → NonPos p → NonPos q → NonPos (rational_sum p q)
nonpos_plus p q hp hq =
    subst NonPos (sym (rational_sum-is p q))
    (nonpos_number (unreduced_sum p.0 q.0) (pos_times p.0.denominator q.0.denominator p.1.0 q.1.0)
    (let a : (p.0.numerator *ℤ pos q.0.denominator) ≤ℤ (pos 0 *ℤ pos q.0.denominator) = mul_mono p.0.numerator (pos 0) q.0.denominator hp in
    let b : (q.0.numerator *ℤ pos p.0.denominator) ≤ℤ (pos 0 *ℤ pos p.0.denominator) = mul_mono q.0.numerator (pos 0) p.0.denominator hq in
    omega (arith, ints, a, b, none_times q.0.denominator, none_times p.0.denominator)))

pub nonpos_none : NonPos rational_zero
nonpos_none = subst NonPos (sym rational_zero-is) (nonpos_number (whole (pos 0)) (omega arith) (omega (arith, ints)))

product_sign : (m n : ℤ) → pos 0 ≤ℤ m → n ≤ℤ pos 0 → (m *ℤ n) ≤ℤ pos 0
product_sign (pos m) n hm hn =
    let le : (n *ℤ pos m) ≤ℤ (pos 0 *ℤ pos m) = mul_mono n (pos 0) m hn in
    let turn : pos m *ℤ n ≡ n *ℤ pos m = solve wholes (pos m ∷ n ∷ []) (product (var 0) (var 1)) (product (var 1) (var 0)) refl in
    omega (arith, ints, le, turn, none_times m)
product_sign (negsuc m) n hm hn = absurd (omega (arith, ints))

-- a positive coefficient times a number that isn't positive
pub nonpos_times : (a : Ratio) (p : Rational) → 0 < a.denominator → pos 0 ≤ℤ a.numerator → NonPos p → NonPos (rational_product (number a) p)
nonpos_times a p fa ha hp =
    subst NonPos (number_times a p.0 fa p.1.0 ∙ ap (rational_product (number a)) (number_of p))
    (nonpos_number (unreduced_product a p.0) (pos_times a.denominator p.0.denominator fa p.1.0) (product_sign a.numerator p.0.numerator ha hp))

-- the difference of two fractions
pub less_or_same : (x y : Ratio) → 0 < x.denominator → 0 < y.denominator → is_less y x ≡ false → NonPos (rational_sum (number x) (rational_negation (number y)))
less_or_same x y fx fy e =
    subst NonPos (number_plus x (negation_of y) fx fy ∙ ap (rational_sum (number x)) (number_neg y fy))
    (nonpos_number (unreduced_sum x (negation_of y)) (pos_times x.denominator y.denominator fx fy)
    (let le : (x.numerator *ℤ pos y.denominator) ≤ℤ (y.numerator *ℤ pos x.denominator) = grind (arith, ints) in
    let minus_is : neg_ℤ y.numerator *ℤ pos x.denominator ≡ neg_ℤ (y.numerator *ℤ pos x.denominator) =
    solve wholes (y.numerator ∷ pos x.denominator ∷ []) (product (minus (var 0)) (var 1)) (minus (product (var 0) (var 1))) refl in
    omega (arith, ints, le, minus_is)))

pub difference_nonpos : (x y : Ratio) → 0 < x.denominator → 0 < y.denominator → NonPos (rational_sum (number x) (rational_negation (number y))) → is_less y x ≡ false
difference_nonpos x y fx fy h =
    let raw : (unreduced_sum x (negation_of y)).numerator ≤ℤ pos 0 =
    number_nonpos (unreduced_sum x (negation_of y)) (pos_times x.denominator y.denominator fx fy) (subst NonPos (sym (number_plus x (negation_of y) fx fy ∙ ap (rational_sum (number x)) (number_neg y fy))) h) in
    let minus_is : neg_ℤ y.numerator *ℤ pos x.denominator ≡ neg_ℤ (y.numerator *ℤ pos x.denominator) =
    solve wholes (y.numerator ∷ pos x.denominator ∷ []) (product (minus (var 0)) (var 1)) (minus (product (var 0) (var 1))) refl in
    let le : (x.numerator *ℤ pos y.denominator) ≤ℤ (y.numerator *ℤ pos x.denominator) = omega (arith, ints, raw, minus_is) in
    grind (arith, ints)
