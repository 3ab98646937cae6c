-- The definitions on numbers that were computed elsewhere.
use Rattle.std.proofs.Common.{◌≡◌, ℕ, ℤ, pos, negsuc, neg_ℤ, Some, None, [], ◌∷◌, map, refl, arith}
use Rattle.std.proofs.lemmas.Int.{ints}
use Rattle.fraction128.specs.declared.ratio.Ratio.{Ratio}
use Rattle.fraction128.specs.Whole.{first_outside}
use Rattle.fraction128.specs.Gcd.{gcd_of}
use Rattle.fraction128.specs.Listed.{times, plus, sum_of, sum_over, reduced_by, sum_steps, product_of, product_steps, reciprocal_of}
use Rattle.fraction128.specs.Number.{whole}
use Rattle.fraction128.specs.Division.{IsDivision, quotient, remainder}

over : ℤ → ℕ → Ratio
over n d = record { numerator = n; denominator = d }

divisor_of_twelve_and_eighteen : gcd_of 12 18 ≡ 6
unfolding gcd_of
divisor_of_twelve_and_eighteen = refl

divisor_of_none : gcd_of 0 0 ≡ 0
unfolding gcd_of
divisor_of_none = refl

-- 1/6 + 1/10 = 4/15
sixth_and_tenth : sum_of (over (pos 1) 6) (over (pos 1) 10) ≡ over (pos 4) 15
unfolding gcd_of sum_of sum_over reduced_by over
sixth_and_tenth = refl

-- -2/3 * 9/4 = -3/2
two_thirds_of_nine_quarters : product_of (over (negsuc 1) 3) (over (pos 9) 4) ≡ over (negsuc 2) 2
unfolding gcd_of product_of over
two_thirds_of_nine_quarters = refl

reciprocal_of_minus_two_thirds : reciprocal_of (over (negsuc 1) 3) ≡ over (negsuc 2) 2
unfolding over
reciprocal_of_minus_two_thirds = refl

-- the greatest number of the range and 1
past_the_range : first_outside (sum_steps (whole (pos 170141183460469231731687303715884105727)) (whole (pos 1))) ≡ Some (plus (pos 170141183460469231731687303715884105727) (pos 1))
unfolding gcd_of sum_steps reduced_by sum_over
past_the_range = refl

-- 2^64 * 2^62 is 2^126, and 2^64 * 2^63 is past the range
within_the_range : first_outside (product_steps (whole (pos 18446744073709551616)) (whole (pos 4611686018427387904))) ≡ None
unfolding gcd_of product_steps
within_the_range = refl

product_past_the_range : first_outside (product_steps (whole (pos 18446744073709551616)) (whole (pos 9223372036854775808))) ≡ Some (times (pos 18446744073709551616) (pos 9223372036854775808))
unfolding gcd_of product_steps
product_past_the_range = refl

divided : ℤ × ℤ → ℤ × ℤ
divided p = (quotient p.0 p.1, remainder p.0 p.1)

greatest : ℤ
greatest = pos 170141183460469231731687303715884105727

-- 7 and -7 by 2 and -2: the remainder is 1 each time
sevens : map divided ((pos 7, pos 2) ∷ (negsuc 6, pos 2) ∷ (pos 7, negsuc 1) ∷ (negsuc 6, negsuc 1) ∷ [])
    ≡ (pos 3, pos 1) ∷ (negsuc 3, pos 1) ∷ (negsuc 2, pos 1) ∷ (pos 4, pos 1) ∷ []
unfolding divided
sevens = refl

-- at the ends of the range, by 1, by -1 and by the greatest number
ends_divided : map divided ((greatest, pos 1) ∷ (neg_ℤ greatest, negsuc 0) ∷ (greatest, neg_ℤ greatest) ∷ (neg_ℤ greatest, greatest) ∷ (negsuc 0, greatest) ∷ (pos 0, neg_ℤ greatest) ∷ [])
    ≡ (greatest, pos 0) ∷ (greatest, pos 0) ∷ (negsuc 0, pos 0) ∷ (negsuc 0, pos 0) ∷ (negsuc 0, pos 170141183460469231731687303715884105726) ∷ (pos 0, pos 0) ∷ []
unfolding divided greatest
ends_divided = refl

-- division that cuts towards 0 leaves a negative remainder, which is none
cut_towards_zero : IsDivision (negsuc 6) (pos 2) (negsuc 2) (negsuc 0) → ⊥
cut_towards_zero h = absurd (omega (arith, ints, h.not_negative))

-- nor is one that is as great as the divisor
remainder_too_great : IsDivision (pos 7) (pos 2) (pos 2) (pos 3) → ⊥
remainder_too_great h = absurd (omega (arith, ints, h.below))
