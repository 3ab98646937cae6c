-- Bounds divided by the greatest common divisor of their coefficients.
use Rattle.std.proofs.Common.{◌≡◌, ◌≢◌, ℕ, zero, suc, ◌+◌, ◌*◌, ◌/◌, ◌<◌, ◌≤◌, true, List, [], ◌∷◌, length, get_or, drop, ap, subst, sym, ◌∙◌, refl, arith, false, leb, to_z, of_z}
use Rattle.std.specs.Prelude.{ℤ, pos, negsuc, unsigned_abs, int_le}
use Rattle.std.specs.Int.{IsGcd, ◌∣◌, w128}
use Rattle.std.proofs.lemmas.Bool.{leb-true, leb-false}
use Rattle.fraction128.proofs.Integers.{same_bits}
use Rattle.std.proofs.lemmas.Nat.Gcd.{dvd_trans}
use Rattle.std.proofs.Math.Nat.{div-le_self, div-mul_cancel, div-one, eq-zero_of_zero-dvd}
use Rattle.std.proofs.lemmas.List.{drop_more, drop_all}
use Rattle.fraction128.specs.Whole.{InRange, is_in_range}
use Rattle.fraction128.specs.Gcd.{gcd_of}
use Rattle.fraction128.proofs.Divisors.{IsGcd-gcd_of}
use Rattle.smt_laws.proofs.Both.{and_left, and_right, and_both}
use Rattle.smt_meaning.specs.declared.clauses.Summand.{Summand}
use Rattle.smt_meaning.specs.declared.clauses.Atom.TheVariants.{AtMost}
use Rattle.smt_meaning.specs.Linear.{summand, sum_fits}
use Rattle.smt_meaning.specs.Atoms.{sum_gcd, divided, each_divided, normal_bound, DividesEach}
use Rattle.linear_forms.specs.Sums.{IsSumWithin}
use Rattle.linear_forms.proofs.SumLemmas.{fits_in_range, in_range_fits}
use Rattle.pair_bounds.specs.Sums.{HaveNoZero}

-- ---- quotients

-- a quotient is no greater than the number
quotient_size : (z : ℤ) (g : ℕ) → unsigned_abs (divided z (pos g)) ≤ unsigned_abs z
quotient_size (pos a) g = div-le_self a g
quotient_size (negsuc a) g = let l = div-le_self a g in omega (arith, l)

pub quotient_in_range : (z : ℤ) (g : ℕ) → InRange z → InRange (divided z (pos g))
quotient_in_range z g h = let l = quotient_size z g in omega (arith, l)

by_one : (z : ℤ) → divided z (pos 1) ≡ z
by_one (pos a) = ap pos (div-one a)
by_one (negsuc a) = ap negsuc (div-one a)

-- the quotient by a divisor of a number that isn't 0 isn't 0
pub quotient_not_zero : (z : ℤ) (g : ℕ) → g ∣ unsigned_abs z → z ≢ pos 0 → divided z (pos g) ≢ pos 0
quotient_not_zero (pos a) g d h e =
    let none : a / g ≡ 0 = cc in
    let back : a / g * g ≡ a = div-mul_cancel g d in
    let zero_product : a / g * g ≡ 0 = ap (λ n. n * g) none ∙ omega arith in
    h (ap pos (sym back ∙ zero_product))
quotient_not_zero (negsuc a) g d h e = cc

-- ---- the divisor

weaker : (g h : ℕ) (ps : List Summand) → g ∣ h → DividesEach h ps → DividesEach g ps
weaker g h [] d e = tt
weaker g h (p ∷ ps) d e = (dvd_trans g d e.0, weaker g h ps d e.1)

-- it divides each coefficient
pub divides : (ps : List Summand) → DividesEach (sum_gcd ps) ps
divides [] = tt
divides (p ∷ ps) =
    let both : IsGcd (unsigned_abs p.coefficient) (sum_gcd ps) (sum_gcd (p ∷ ps)) = IsGcd-gcd_of (unsigned_abs p.coefficient) (sum_gcd ps) in
    (both.0, weaker (sum_gcd (p ∷ ps)) (sum_gcd ps) ps both.1 (divides ps))

no_abs : (z : ℤ) → unsigned_abs z ≡ 0 → z ≡ pos 0
no_abs (pos a) e = ap pos e
no_abs (negsuc a) e = absurd (omega arith)

-- where no coefficient is 0, only the empty sum has the divisor 0
zero_divisor : (ps : List Summand) → HaveNoZero ps → sum_gcd ps ≡ 0 → ps ≡ []
zero_divisor [] n e = refl
zero_divisor (p ∷ ps) n e = let d : sum_gcd (p ∷ ps) ∣ unsigned_abs p.coefficient = (divides (p ∷ ps)).0 in
    absurd (n.0 (no_abs p.coefficient (eq-zero_of_zero-dvd (subst (λ g. g ∣ unsigned_abs p.coefficient) e d))))

-- ---- the loop that finds it

pub record IsDivisor (ps : List Summand) (i : ℕ) (z : ℤ) : Type 0 where
  pub within : i ≤ length ps
  pub value : z ≡ pos (sum_gcd (drop i ps))
  pub in_range : InRange z

pub divisor_start : (ps : List Summand) (i : ℕ) → i ≡ length ps → IsDivisor ps i (pos 0)
divisor_start ps i e = record { within = omega arith; value = sym (ap (λ xs. pos (sum_gcd xs)) (drop_all i ps (omega arith))); in_range = omega arith }

pub divisor_step : (ps : List Summand) (i k : ℕ) (d : Summand) (z next : ℤ) → IsDivisor ps i z → i ≡ k + 1 → next ≡ pos (gcd_of (unsigned_abs (get_or ps k d).coefficient) (unsigned_abs z)) → InRange next → IsDivisor ps k next
divisor_step ps i k d z next s e f r =
    let l = s.within in
    let less : k < length ps = omega arith in
    record {
      within = omega arith;
      value =
          f ∙ ap (λ x. pos (gcd_of (unsigned_abs (get_or ps k d).coefficient) (unsigned_abs x))) (s.value ∙ ap (λ j. pos (sum_gcd (drop j ps))) e)
          ∙ ap (λ xs. pos (sum_gcd xs)) (sym (drop_more ps k d less));
      in_range = r;
    }

pub coefficient_at : (ps : List Summand) (k : ℕ) (d : Summand) → k < length ps → sum_fits ps ≡ true → InRange (get_or ps k d).coefficient
coefficient_at [] k d l h = absurd (omega arith)
coefficient_at (p ∷ ps) zero d l h = fits_in_range p.coefficient (and_left (is_in_range p.coefficient) (sum_fits ps) h)
coefficient_at (p ∷ ps) (suc k) d l h = coefficient_at ps k d (omega arith) (and_right (is_in_range p.coefficient) (sum_fits ps) h)

-- ---- sums divided

divided_by_one : (ps : List Summand) → each_divided (pos 1) ps ≡ ps
divided_by_one [] = refl
divided_by_one (p ∷ ps) = ap (λ z. summand p.term z ∷ each_divided (pos 1) ps) (by_one p.coefficient) ∙ ap (λ xs. p ∷ xs) (divided_by_one ps)

divided_fits : (g : ℕ) (ps : List Summand) → sum_fits ps ≡ true → sum_fits (each_divided (pos g) ps) ≡ true
divided_fits g [] h = refl
divided_fits g (p ∷ ps) h =
    and_both (is_in_range (divided p.coefficient (pos g))) (sum_fits (each_divided (pos g) ps))
    (in_range_fits (divided p.coefficient (pos g)) (quotient_in_range p.coefficient g (fits_in_range p.coefficient (and_left (is_in_range p.coefficient) (sum_fits ps) h))))
    (divided_fits g ps (and_right (is_in_range p.coefficient) (sum_fits ps) h))

divided_order : (g : ℕ) (low high : ℕ) (ps : List Summand) → DividesEach g ps → IsSumWithin low high ps → IsSumWithin low high (each_divided (pos g) ps)
divided_order g low high [] d s = tt
divided_order g low high (p ∷ ps) d s = (s.0, s.1, quotient_not_zero p.coefficient g d.0 s.2, divided_order g (p.term + 1) high ps d.1 s.3)

-- ---- normal bounds

pub no_zero : (low high : ℕ) (ps : List Summand) → IsSumWithin low high ps → HaveNoZero ps
no_zero low high [] s = tt
no_zero low high (p ∷ ps) s = (s.2, no_zero (p.term + 1) high ps s.3)

-- a bound with the divisor 0 or 1 is in normal form
pub normal_already : (ps : List Summand) (k : ℤ) → HaveNoZero ps → sum_gcd ps ≤ 1 → AtMost ps k ≡ normal_bound ps k
normal_already [] k n h = refl
normal_already (p ∷ ps) k n h = by (sum_gcd (p ∷ ps)) refl h
  where
    by : (g : ℕ) → sum_gcd (p ∷ ps) ≡ g → g ≤ 1 → AtMost (p ∷ ps) k ≡ normal_bound (p ∷ ps) k
    by zero e l = let none : p ∷ ps ≡ [] = zero_divisor (p ∷ ps) n e in cc
    by (suc zero) e l =
        sym (ap (λ g. AtMost (each_divided (pos g) (p ∷ ps)) (divided k (pos g))) e ∙ ap (λ xs. AtMost xs (divided k (pos 1))) (divided_by_one (p ∷ ps)) ∙ ap (AtMost (p ∷ ps)) (by_one k))
    by (suc (suc g)) e l = absurd (omega arith)

module _ (ps : List Summand) (g : ℤ) (e : g ≡ pos (sum_gcd ps)) where
  pub normal_divided : (k : ℤ) (qs : List Summand) (m : ℤ) → 1 < sum_gcd ps → qs ≡ each_divided g ps → m ≡ divided k g → AtMost qs m ≡ normal_bound ps k
  normal_divided k qs m h s t = ap (λ xs. AtMost xs m) (s ∙ ap (λ x. each_divided x ps) e) ∙ ap (AtMost (each_divided (pos (sum_gcd ps)) ps)) (t ∙ ap (divided k) e) ∙ by ps h
    where
      by : (xs : List Summand) → 1 < sum_gcd xs → AtMost (each_divided (pos (sum_gcd xs)) xs) (divided k (pos (sum_gcd xs))) ≡ normal_bound xs k
      by [] l = absurd (omega arith)
      by (x ∷ xs) l = refl

  pub normal_fits : (qs : List Summand) → sum_fits ps ≡ true → qs ≡ each_divided g ps → sum_fits qs ≡ true
  normal_fits qs h s = ap sum_fits (s ∙ ap (λ x. each_divided x ps) e) ∙ divided_fits (sum_gcd ps) ps h

  pub normal_order : (qs : List Summand) → qs ≡ each_divided g ps → (low high : ℕ) → IsSumWithin low high ps → IsSumWithin low high qs
  normal_order qs s low high h = subst (IsSumWithin low high) (sym (s ∙ ap (λ x. each_divided x ps) e)) (divided_order (sum_gcd ps) low high ps (divides ps) h)

pub at_most_one : (ps : List Summand) (g : ℤ) → g ≡ pos (sum_gcd ps) → InRange g → int_le (to_z w128 (of_z w128 g)) (pos 1) ≡ true → sum_gcd ps ≤ 1
at_most_one ps g e r h =
    let l : leb (sum_gcd ps) 1 ≡ true = ap (λ z. int_le z (pos 1)) (sym (same_bits g r ∙ e)) ∙ h in
    leb-true (sum_gcd ps) 1 l

pub more_than_one : (ps : List Summand) (g : ℤ) → g ≡ pos (sum_gcd ps) → InRange g → int_le (to_z w128 (of_z w128 g)) (pos 1) ≡ false → 1 < sum_gcd ps
more_than_one ps g e r h =
    let l : leb (sum_gcd ps) 1 ≡ false = ap (λ z. int_le z (pos 1)) (sym (same_bits g r ∙ e)) ∙ h in
    leb-false (sum_gcd ps) 1 l

pub quotient_in_range_by : (z g : ℤ) {n : ℕ} → InRange z → g ≡ pos n → InRange (divided z g)
quotient_in_range_by z g {n} h e = subst (λ x. InRange (divided z x)) (sym e) (quotient_in_range z n h)
