-- Division with a remainder that isn't negative, by numbers of both signs.
use Rattle.std.proofs.Common.{◌≡◌, ◌≢◌, ℕ, zero, suc, ◌*◌, ◌<◌, ◌≤◌, ℤ, pos, negsuc, ◌+ℤ◌, ◌-ℤ◌, ◌*ℤ◌, ◌≤ℤ◌, ◌<ℤ◌, neg_ℤ, sym, refl, ap, subst, ◌∙◌, arith}
use Rattle.std.specs.Int.{int_div_euclid, int_rem_euclid}
use Rattle.std.proofs.Math.IntN.{*ℤ_comm}
use Rattle.std.proofs.lemmas.Int.{ints}
use Rattle.fraction128.specs.Division.{IsDivision, absolute, quotient, remainder}
use Rattle.fraction128.proofs.Ring.{sum-times}
use Rattle.fraction128.proofs.LowestTerms.{neg-times}
use Rattle.fraction128.proofs.Comparisons.{euclid-parts, rem-is}

-- ---- the quotient and the remainder are a division

twice_negated : (z : ℤ) → neg_ℤ (neg_ℤ z) ≡ z
twice_negated z = omega (arith, ints)

-- two signs more change no product
signs_cancel : (z : ℤ) (b : ℕ) → negsuc b *ℤ neg_ℤ z ≡ pos (suc b) *ℤ z
signs_cancel z b =
    neg-times (pos (suc b)) (neg_ℤ z) ∙ ap neg_ℤ (*ℤ_comm (pos (suc b)) (neg_ℤ z) ∙ neg-times z (pos (suc b))) ∙ twice_negated (z *ℤ pos (suc b)) ∙ *ℤ_comm z (pos (suc b))

quotient_negated : (a : ℤ) (b : ℕ) → int_div_euclid a (negsuc b) ≡ neg_ℤ (int_div_euclid a (pos (suc b)))
quotient_negated (pos a) b = refl
quotient_negated (negsuc a) b = refl

remainder_same : (a : ℤ) (b : ℕ) → int_rem_euclid a (negsuc b) ≡ int_rem_euclid a (pos (suc b))
remainder_same (pos a) b = refl
remainder_same (negsuc a) b = refl

divides_above : (a : ℤ) (b : ℕ) → 0 < b → IsDivision a (pos b) (quotient a (pos b)) (remainder a (pos b))
divides_above a b h =
    let n = rem-is a b h in
    record {
      whole = sym (ap (λ x. x +ℤ remainder a (pos b)) (*ℤ_comm (pos b) (quotient a (pos b))) ∙ euclid-parts a b h);
      not_negative = omega (arith, ints, n.1);
      below = omega (arith, ints, n.1, n.2);
    }

turned : (a : ℤ) (b : ℕ) (q r : ℤ) → IsDivision a (pos (suc b)) q r → IsDivision a (negsuc b) (neg_ℤ q) r
turned a b q r h = record {
  whole = h.whole ∙ ap (λ x. x +ℤ r) (sym (signs_cancel q b));
  not_negative = h.not_negative;
  below = h.below;
}

pub divides : (a n : ℤ) → n ≢ pos 0 → IsDivision a n (quotient a n) (remainder a n)
divides a (pos zero) h = absurd (h refl)
divides a (pos (suc b)) h = divides_above a (suc b) (omega arith)
divides a (negsuc b) h =
    subst (λ q. IsDivision a (negsuc b) q (remainder a (negsuc b))) (sym (quotient_negated a b))
    (subst (IsDivision a (negsuc b) (neg_ℤ (quotient a (pos (suc b))))) (sym (remainder_same a b)) (turned a b (quotient a (pos (suc b))) (remainder a (pos (suc b))) (divides_above a (suc b) (omega arith))))

-- ---- there is no other

-- of the multiples of b one alone is between -b and b
only_zero : (b : ℕ) (d x : ℤ) → d *ℤ pos b ≡ x → x <ℤ pos b → neg_ℤ x <ℤ pos b → d ≡ pos 0
only_zero b (pos zero) x e h k = refl
only_zero b (pos (suc n)) x e h k =
    let size : b ≤ suc n * b = omega arith in
    absurd (omega (arith, ints, e, size))
only_zero b (negsuc n) x e h k =
    let size : b ≤ suc n * b = omega arith in
    absurd (omega (arith, ints, e, size))

one_quotient : (a : ℤ) (b : ℕ) (p q r s : ℤ) → IsDivision a (pos b) p r → IsDivision a (pos b) q s → (p ≡ q) × (r ≡ s)
one_quotient a b p q r s f g =
    let left : a ≡ p *ℤ pos b +ℤ r = f.whole ∙ ap (λ x. x +ℤ r) (*ℤ_comm (pos b) p) in
    let right : a ≡ q *ℤ pos b +ℤ s = g.whole ∙ ap (λ x. x +ℤ s) (*ℤ_comm (pos b) q) in
    let back : (p -ℤ q) +ℤ q ≡ p = omega (arith, ints) in
    let parts : p *ℤ pos b ≡ (p -ℤ q) *ℤ pos b +ℤ q *ℤ pos b = ap (λ z. z *ℤ pos b) (sym back) ∙ sum-times (p -ℤ q) q (pos b) in
    let apart : (p -ℤ q) *ℤ pos b ≡ s -ℤ r = omega (arith, ints, left, right, parts) in
    let low : (s -ℤ r) <ℤ pos b = omega (arith, ints, f.not_negative, g.below) in
    let high : neg_ℤ (s -ℤ r) <ℤ pos b = omega (arith, ints, g.not_negative, f.below) in
    let none : p -ℤ q ≡ pos 0 = only_zero b (p -ℤ q) (s -ℤ r) apart low high in
    let same : p ≡ q = omega (arith, ints, none) in
    let sides : p *ℤ pos b ≡ q *ℤ pos b = ap (λ z. z *ℤ pos b) same in
    (same, omega (arith, ints, left, right, sides))

turned_back : (a : ℤ) (b : ℕ) (q r : ℤ) → IsDivision a (negsuc b) q r → IsDivision a (pos (suc b)) (neg_ℤ q) r
turned_back a b q r h = record {
  whole = h.whole ∙ ap (λ x. x +ℤ r) (ap (λ z. negsuc b *ℤ z) (sym (twice_negated q)) ∙ signs_cancel (neg_ℤ q) b);
  not_negative = h.not_negative;
  below = h.below;
}

pub only : (a n q r : ℤ) → IsDivision a n q r → (q ≡ quotient a n) × (r ≡ remainder a n)
only a (pos zero) q r h = absurd (omega (arith, ints, h.not_negative, h.below))
only a (pos (suc b)) q r h = one_quotient a (suc b) q (quotient a (pos (suc b))) r (remainder a (pos (suc b))) h (divides_above a (suc b) (omega arith))
only a (negsuc b) q r h =
    let same = one_quotient a (suc b) (neg_ℤ q) (quotient a (pos (suc b))) r (remainder a (pos (suc b))) (turned_back a b q r h) (divides_above a (suc b) (omega arith)) in
    (sym (twice_negated q) ∙ ap neg_ℤ same.0 ∙ sym (quotient_negated a b), same.1 ∙ sym (remainder_same a b))

-- the quotient is the number that the two bounds leave
pub bounds : (a n q : ℤ) → (n *ℤ q) ≤ℤ a → (a -ℤ n *ℤ q) ≤ℤ (absolute n -ℤ pos 1) → q ≡ quotient a n
bounds a n q h k =
    (only a n q (a -ℤ n *ℤ q)
    (
    record {
      whole = omega (arith, ints);
      not_negative = omega (arith, ints, h);
      below = omega (arith, ints, k);
    }
    )).0
