-- Results of sums and products are those that the listed steps name.
use Rattle.std.proofs.Common.{◌≡◌, ◌≢◌, ℕ, zero, suc, negsuc, neg_ℤ, unsigned_abs, subst, refl, arith, ◌*◌, ◌<◌, ℤ, pos, ◌+ℤ◌, ◌*ℤ◌, sym, ap, ◌∙◌, None}
use Rattle.std.proofs.Math.Nat.{mul_comm}
use Rattle.std.proofs.Math.IntN.{*ℤ_comm}
use Rattle.fraction128.proofs.Integers.{times-pos}
use Rattle.fraction128.proofs.LowestTerms.{sum-is, product-is, pos_times, reciprocal-lowest, neg-times}
use Rattle.fraction128.proofs.Comparisons.{times_cancel}
use Rattle.fraction128.proofs.RationalRing.{lowest-unique}
use Rattle.fraction128.specs.declared.ratio.Ratio.{Ratio}
use Rattle.fraction128.specs.Whole.{first_outside}
use Rattle.fraction128.specs.Ratio.{IsFraction, Equals, IsSum, IsProduct, IsReciprocal}
use Rattle.fraction128.specs.Listed.{sum_of, sum_steps, product_of, product_steps, reciprocal_of}

swap : (z : ℤ) (m n : ℕ) → (z *ℤ pos m) *ℤ pos n ≡ (z *ℤ pos n) *ℤ pos m
swap z m n = times-pos z m n ∙ ap (λ k. z *ℤ pos k) (mul_comm m n) ∙ sym (times-pos z n m)

one_number : (r p : Ratio) (n : ℤ) (d : ℕ) → 0 < d → IsFraction r → IsFraction p → Equals r n d → Equals p n d → r ≡ p
one_number r p n d above fr fp er ep =
    lowest-unique r p fr fp
    (times_cancel (r.numerator *ℤ pos p.denominator) (p.numerator *ℤ pos r.denominator) d above
    (swap r.numerator p.denominator d ∙ ap (λ z. z *ℤ pos p.denominator) er ∙ swap n r.denominator p.denominator
    ∙ ap (λ z. z *ℤ pos r.denominator) (sym ep)
    ∙ swap p.numerator d r.denominator
    ))

pub sum-exact : (x y r : Ratio) → IsFraction x → IsFraction y → IsSum x y r → IsFraction r → first_outside (sum_steps x y) ≡ None → r ≡ sum_of x y
sum-exact x y r fx fy e fr fits =
    let found = sum-is x y fx fy fits in
    one_number r (sum_of x y) (x.numerator *ℤ pos y.denominator +ℤ y.numerator *ℤ pos x.denominator) (x.denominator * y.denominator) (pos_times x.denominator y.denominator fx.positive fy.positive) fr found.0 e found.1

pub product-exact : (x y r : Ratio) → IsFraction x → IsFraction y → IsProduct x y r → IsFraction r → first_outside (product_steps x y) ≡ None → r ≡ product_of x y
product-exact x y r fx fy e fr fits =
    let found = product-is x y fx fy fits in
    one_number r (product_of x y) (x.numerator *ℤ y.numerator) (x.denominator * y.denominator) (pos_times x.denominator y.denominator fx.positive fy.positive) fr found.0 e found.1

pub reciprocal-exact : (x r : Ratio) → IsFraction x → x.numerator ≢ pos 0 → IsReciprocal x r → IsFraction r → r ≡ reciprocal_of x
reciprocal-exact x r fx some e fr = by_sign x.numerator x.denominator refl refl
  where
    unit_swap : (m n : ℕ) → pos (m * n) ≡ pos n *ℤ pos m
    unit_swap m n = ap pos (mul_comm m n)

    by_sign : (z : ℤ) (d : ℕ) → x.numerator ≡ z → x.denominator ≡ d → r ≡ reciprocal_of (record { numerator = z; denominator = d })
    by_sign (pos zero) d ez ed = absurd (some ez)
    by_sign (pos (suc n)) d ez ed =
        let q : Ratio = record { numerator = pos d; denominator = suc n } in
        lowest-unique r q fr
        (reciprocal-lowest x q fx (subst (λ z. 0 < unsigned_abs z) (sym ez) (omega arith)) (sym ed) (sym (ap unsigned_abs ez)))
        (ap (λ z. r.numerator *ℤ z) (sym ez) ∙ e ∙ ap (λ m. pos (r.denominator * m)) ed ∙ unit_swap r.denominator d)
    by_sign (negsuc n) d ez ed =
        let q : Ratio = record { numerator = neg_ℤ (pos d); denominator = suc n } in
        lowest-unique r q fr
        (reciprocal-lowest x q fx (subst (λ z. 0 < unsigned_abs z) (sym ez) (omega arith)) (abs_neg d ∙ sym ed) (sym (ap unsigned_abs ez)))
        (*ℤ_comm r.numerator (pos (suc n)) ∙ minus_both ∙ ap neg_ℤ (*ℤ_comm (negsuc n) r.numerator ∙ ap (λ z. r.numerator *ℤ z) (sym ez) ∙ e ∙ ap (λ m. pos (r.denominator * m)) ed ∙ unit_swap r.denominator d)
        ∙ sym (neg-times (pos d) (pos r.denominator)))
      where
        abs_neg : (m : ℕ) → unsigned_abs (neg_ℤ (pos m)) ≡ m
        abs_neg zero = refl
        abs_neg (suc m) = refl

        minus_both : pos (suc n) *ℤ r.numerator ≡ neg_ℤ (negsuc n *ℤ r.numerator)
        minus_both = neg-times (negsuc n) r.numerator
