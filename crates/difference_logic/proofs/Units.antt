-- Sums of one term and of two, with coefficients 1 and -1.
use Rattle.std.proofs.Common.{◌≡◌, ℤ, pos, negsuc, ◌+ℤ◌, ◌-ℤ◌, ◌*ℤ◌, neg_ℤ, [], ◌∷◌, refl, sym, ap, ap₂, ◌∙◌, arith}
use Rattle.std.proofs.lemmas.Int.{ints}
use Rattle.fraction128.proofs.RingEquations.{var, product, minus, unit, solve}
use Rattle.fraction128.proofs.WholeNumbers.{wholes}

plus_times : (x : ℤ) → pos 1 *ℤ x ≡ x
plus_times x = solve wholes (x ∷ []) (product unit (var 0)) (var 0) refl

minus_times : (x : ℤ) → negsuc 0 *ℤ x ≡ neg_ℤ x
minus_times x = solve wholes (x ∷ []) (product (minus unit) (var 0)) (minus (var 0)) refl

pub plus : (c x n : ℤ) → c ≡ pos 1 → n ≡ x → c *ℤ x ≡ n
plus c x n e s = ap (λ z. z *ℤ x) e ∙ plus_times x ∙ sym s

pub minus_one : (c x n : ℤ) → c ≡ negsuc 0 → n ≡ x → c *ℤ x ≡ neg_ℤ n
minus_one c x n e s = ap (λ z. z *ℤ x) e ∙ minus_times x ∙ ap neg_ℤ (sym s)

above_zero : (n : ℤ) → n +ℤ pos 0 ≡ n -ℤ pos 0
above_zero n = grind (arith, ints)

below_zero : (n : ℤ) → neg_ℤ n +ℤ pos 0 ≡ pos 0 -ℤ n
below_zero n = grind (arith, ints)

pub one_plus : (c x n : ℤ) → c ≡ pos 1 → n ≡ x → c *ℤ x +ℤ pos 0 ≡ n -ℤ pos 0
one_plus c x n e s = ap (λ z. z +ℤ pos 0) (plus c x n e s) ∙ above_zero n

pub one_minus : (c x n : ℤ) → c ≡ negsuc 0 → n ≡ x → c *ℤ x +ℤ pos 0 ≡ pos 0 -ℤ n
one_minus c x n e s = ap (λ z. z +ℤ pos 0) (minus_one c x n e s) ∙ below_zero n

above_other : (m n : ℤ) → m +ℤ (neg_ℤ n +ℤ pos 0) ≡ m -ℤ n
above_other m n = grind (arith, ints)

below_other : (m n : ℤ) → neg_ℤ m +ℤ (n +ℤ pos 0) ≡ n -ℤ m
below_other m n = grind (arith, ints)

pub plus_minus : (c x m d y n : ℤ) → c ≡ pos 1 → m ≡ x → d ≡ negsuc 0 → n ≡ y → c *ℤ x +ℤ (d *ℤ y +ℤ pos 0) ≡ m -ℤ n
plus_minus c x m d y n e s f t = ap₂ (λ u v. u +ℤ (v +ℤ pos 0)) (plus c x m e s) (minus_one d y n f t) ∙ above_other m n

pub minus_plus : (c x m d y n : ℤ) → c ≡ negsuc 0 → m ≡ x → d ≡ pos 1 → n ≡ y → c *ℤ x +ℤ (d *ℤ y +ℤ pos 0) ≡ n -ℤ m
minus_plus c x m d y n e s f t = ap₂ (λ u v. u +ℤ (v +ℤ pos 0)) (minus_one c x m e s) (plus d y n f t) ∙ below_other m n
