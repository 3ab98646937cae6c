-- The order of fractions by their floors and what is left of them.
use Rattle.std.proofs.Common.{◌≡◌, ◌≢◌, ◌⊎◌, inl, inr, ℕ, zero, suc, ◌+◌, ◌*◌, ◌/◌, ◌%◌, ◌<◌, ◌≤◌, ℤ, pos, ◌+ℤ◌, ◌*ℤ◌, Ordering, sym, refl, ap, ap₂, ◌∙◌, arith}
use Rattle.std.specs.Ordering.{nat_cmp, int_cmp}
use Rattle.std.specs.declared.cmp.Ordering.TheVariants.{Less, Equal, Greater}
use Rattle.std.specs.Cmp.{int_cmp_is, nat_cmp_is}
use Rattle.std.proofs.Math.Nat.{div-add-mod', mod-lt, mul-le-mul_right, mul_comm}
use Rattle.std.proofs.lemmas.Int.{ints}
use Rattle.std.proofs.lemmas.Bool.{cases_lt}
use Rattle.fraction128.proofs.Comparisons.{less-quotient, more-quotient}
use Rattle.fraction128.proofs.LowestTerms.{pos_times}

nat_scaled : (a b d : ℕ) → a * d ≡ a / b * (b * d) + a % b * d
nat_scaled a b d = sym (ap (λ n. n * d) (div-add-mod' a b)) ∙ regroup (a / b) b (a % b) d
  where
    regroup : (q m r n : ℕ) → (q * m + r) * n ≡ q * (m * n) + r * n
    regroup q m r n = omega arith

nat_shifted : (k m n : ℕ) → nat_cmp (k + m) (k + n) ≡ nat_cmp m n
nat_shifted k m n = by_cases (cases_lt m n) (cases_lt n m)
  where
    by_cases : (m < n) ⊎ (n ≤ m) → (n < m) ⊎ (m ≤ n) → nat_cmp (k + m) (k + n) ≡ nat_cmp m n
    by_cases (inl less) other = sym (nat_cmp_is (k + m) (k + n) Less (omega arith)) ∙ nat_cmp_is m n Less less
    by_cases (inr le) (inl more) = sym (nat_cmp_is (k + m) (k + n) Greater (omega arith)) ∙ nat_cmp_is m n Greater more
    by_cases (inr le) (inr ge) = sym (nat_cmp_is (k + m) (k + n) Equal (omega arith)) ∙ nat_cmp_is m n Equal (omega arith)

pub nat-same-quotient : (a b c d : ℕ) → a / b ≡ c / d → nat_cmp (a * d) (c * b) ≡ nat_cmp (a % b * d) (c % d * b)
nat-same-quotient a b c d e =
    ap₂ nat_cmp (nat_scaled a b d) (nat_scaled c d b ∙ ap₂ (λ q n. q * n + c % d * b) (sym e) (mul_comm d b))
    ∙ nat_shifted (a / b * (b * d)) (a % b * d) (c % d * b)

pub nat-less-quotient : (a b c d : ℕ) → 0 < b → 0 < d → a / b < c / d → a * d < c * b
nat-less-quotient a b c d b_above d_above less =
    let left = nat_scaled a b d in
    let right = nat_scaled c d b in
    let rest : (a % b + 1) * d ≤ b * d = mul-le-mul_right d (omega (arith, mod-lt a b_above)) in
    let quotients : (a / b + 1) * (b * d) ≤ c / d * (b * d) = mul-le-mul_right (b * d) (omega arith) in
    omega (arith, left, right, rest, quotients)

-- where one remainder is 0, the remainders decide
pub nat-left_none : (d s b : ℕ) → 0 < s → 0 < b → nat_cmp (0 * d) (s * b) ≡ Less
nat-left_none d s b s_above b_above = sym (nat_cmp_is (0 * d) (s * b) Less (omega (arith, pos_times s b s_above b_above)))

pub nat-right_none : (r d b : ℕ) → 0 < r → 0 < d → nat_cmp (r * d) (0 * b) ≡ Greater
nat-right_none r d b r_above d_above = sym (nat_cmp_is (r * d) (0 * b) Greater (omega (arith, pos_times r d r_above d_above)))

pub nat-none : (d b : ℕ) → nat_cmp (0 * d) (0 * b) ≡ Equal
nat-none d b = sym (nat_cmp_is (0 * d) (0 * b) Equal (omega arith))

-- the reciprocals of the remainders, the other way round
pub nat-turned : (r b s d : ℕ) → nat_cmp (d * r) (b * s) ≡ nat_cmp (r * d) (s * b)
nat-turned r b s d = ap₂ nat_cmp (mul_comm d r) (mul_comm b s)

pub nat-rests : (r d s b : ℕ) → 0 < d → 0 < b → (r ≡ 0) ⊎ (s ≡ 0) → nat_cmp r s ≡ nat_cmp (r * d) (s * b)
nat-rests zero d zero b hd hb none = sym (nat_cmp_is 0 0 Equal refl) ∙ sym (nat-none d b)
nat-rests zero d (suc s) b hd hb none = sym (nat_cmp_is 0 (suc s) Less (omega arith)) ∙ sym (nat-left_none d (suc s) b (omega arith) hb)
nat-rests (suc r) d zero b hd hb none = sym (nat_cmp_is (suc r) 0 Greater (omega arith)) ∙ sym (nat-right_none (suc r) d b (omega arith) hd)
nat-rests (suc r) d (suc s) b hd hb (inl e) = absurd (omega arith)
nat-rests (suc r) d (suc s) b hd hb (inr e) = absurd (omega arith)

pub nat-quotients : (a b c d : ℕ) → 0 < b → 0 < d → a / b ≢ c / d → nat_cmp (a / b) (c / d) ≡ nat_cmp (a * d) (c * b)
nat-quotients a b c d hb hd differ = by_cases (cases_lt (a / b) (c / d))
  where
    by_cases : (a / b < c / d) ⊎ (c / d ≤ a / b) → nat_cmp (a / b) (c / d) ≡ nat_cmp (a * d) (c * b)
    by_cases (inl less) = sym (nat_cmp_is (a / b) (c / d) Less less) ∙ nat_cmp_is (a * d) (c * b) Less (nat-less-quotient a b c d hb hd less)
    by_cases (inr le) =
        let more : c / d < a / b = omega arith in
        sym (nat_cmp_is (a / b) (c / d) Greater more) ∙ nat_cmp_is (a * d) (c * b) Greater (nat-less-quotient c d a b hd hb more)

pub int-quotients : (x y p q : ℤ) (b d r s : ℕ) → x ≡ p *ℤ pos b +ℤ pos r → y ≡ q *ℤ pos d +ℤ pos s → r < b → s < d → p ≢ q
    → int_cmp p q ≡ int_cmp (x *ℤ pos d) (y *ℤ pos b)
int-quotients x y p q b d r s ex ey r_below s_below differ = by_order (int_cmp p q) refl
  where
    by_order : (o : Ordering) → int_cmp p q ≡ o → o ≡ int_cmp (x *ℤ pos d) (y *ℤ pos b)
    by_order Less e =
        int_cmp_is (x *ℤ pos d) (y *ℤ pos b) Less (less-quotient x y p q b d r s ex ey r_below (omega arith) (grind (arith, ints)))
    by_order Equal e = absurd (differ (grind (arith, ints)))
    by_order Greater e =
        int_cmp_is (x *ℤ pos d) (y *ℤ pos b) Greater (more-quotient x y p q b d r s ex ey s_below (omega arith) (grind (arith, ints)))
