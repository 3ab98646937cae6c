-- Negated sums, and what a bound says of them.
use Rattle.std.proofs.Common.{◌≡◌, ◌≢◌, ℕ, ◌+◌, Bool, true, false, List, [], ◌∷◌, to_z, of_z, ap, subst, sym, ◌∙◌, refl, arith}
use Rattle.std.specs.Prelude.{ℤ, pos, negsuc, ◌+ℤ◌, ◌-ℤ◌, ◌*ℤ◌, neg_ℤ, int_le, ◌≤ℤ◌, ◌<ℤ◌}
use Rattle.std.specs.Int.{w128}
use Rattle.std.proofs.lemmas.Int.{ints}
use Rattle.fraction128.proofs.Integers.{same_bits}
use Rattle.fraction128.specs.Whole.{InRange, is_in_range}
use Rattle.fraction128.proofs.Ring.{times-sum, times_assoc}
use Rattle.smt_laws.proofs.Both.{and_left, and_right, and_both}
use Rattle.smt_meaning.specs.declared.clauses.Summand.{Summand}
use Rattle.smt_meaning.specs.Term.{Tree, Interpretation, number_of}
use Rattle.smt_meaning.specs.Clause.{sum_value, value_at}
use Rattle.smt_meaning.specs.Linear.{sum_fits}
use Rattle.linear_forms.specs.Sums.{IsSumWithin}
use Rattle.linear_forms.proofs.SumLemmas.{fits_in_range, in_range_fits}
use Rattle.linear_forms.proofs.FoldLemmas.{negated_in_range}
use Rattle.pair_bounds.specs.Turning.{negation_of}

pub minus_one : (z : ℤ) → negsuc 0 *ℤ z ≡ neg_ℤ z
minus_one (pos n) = ap (λ m. neg_ℤ (pos m)) (omega arith)
minus_one (negsuc n) = ap pos (omega arith)

pub negation_fits : (ps : List Summand) → sum_fits ps ≡ true → sum_fits (negation_of ps) ≡ true
negation_fits [] h = refl
negation_fits (p ∷ ps) h =
    and_both (is_in_range (negsuc 0 *ℤ p.coefficient)) (sum_fits (negation_of ps))
    (in_range_fits (negsuc 0 *ℤ p.coefficient) (negated_in_range p.coefficient (fits_in_range p.coefficient (and_left (is_in_range p.coefficient) (sum_fits ps) h))))
    (negation_fits ps (and_right (is_in_range p.coefficient) (sum_fits ps) h))

negation_value : (ts : List Tree) (I : Interpretation) (ps : List Summand) → sum_value ts I (negation_of ps) ≡ negsuc 0 *ℤ sum_value ts I ps
negation_value ts I [] = refl
negation_value ts I (p ∷ ps) =
    let v : ℤ = number_of (value_at ts I p.term) in
    ap (λ z. z +ℤ sum_value ts I (negation_of ps)) (times_assoc (negsuc 0) p.coefficient v) ∙ ap (λ z. negsuc 0 *ℤ (p.coefficient *ℤ v) +ℤ z) (negation_value ts I ps)
    ∙ sym (times-sum (negsuc 0) (p.coefficient *ℤ v) (sum_value ts I ps))

negated_order : (a b : ℤ) → int_le (neg_ℤ a) (neg_ℤ b) ≡ int_le b a
negated_order a b = by (int_le b a) refl
  where
    by : (c : Bool) → int_le b a ≡ c → int_le (neg_ℤ a) (neg_ℤ b) ≡ int_le b a
    by true e = let h : b ≤ℤ a = grind (arith, ints) in let g : int_le (neg_ℤ a) (neg_ℤ b) ≡ true = grind (arith, ints) in g ∙ sym e
    by false e = let h : a <ℤ b = grind (arith, ints) in let g : int_le (neg_ℤ a) (neg_ℤ b) ≡ false = grind (arith, ints) in g ∙ sym e

-- a negation, as the code makes it
pub negated_bits : (k : ℤ) → InRange k → to_z w128 (of_z w128 (pos 0 -ℤ to_z w128 (of_z w128 k))) ≡ neg_ℤ k
negated_bits k r =
    let same : pos 0 -ℤ k ≡ neg_ℤ k = omega (arith, ints) in
    let inside : InRange (pos 0 -ℤ k) = subst InRange (minus_one k ∙ sym same) (negated_in_range k r) in
    ap (λ z. to_z w128 (of_z w128 (pos 0 -ℤ z))) (same_bits k r) ∙ same_bits (pos 0 -ℤ k) inside ∙ same

pub negated_limit : (ps qs : List Summand) (k : ℤ) → qs ≡ negation_of ps → InRange k → (ts : List Tree) (I : Interpretation)
    → int_le (to_z w128 (of_z w128 (pos 0 -ℤ to_z w128 (of_z w128 k)))) (sum_value ts I qs) ≡ int_le (sum_value ts I ps) k
negated_limit ps qs k e r ts I =
    ap (λ z. int_le z (sum_value ts I qs)) (negated_bits k r) ∙ ap (int_le (neg_ℤ k)) (ap (sum_value ts I) e ∙ negation_value ts I ps ∙ minus_one (sum_value ts I ps))
    ∙ negated_order k (sum_value ts I ps)

negated_not_zero : (z : ℤ) → z ≢ pos 0 → negsuc 0 *ℤ z ≢ pos 0
negated_not_zero z h e = let n : neg_ℤ z ≡ pos 0 = sym (minus_one z) ∙ e in h (omega (arith, ints))

pub negation_order : (low high : ℕ) (ps : List Summand) → IsSumWithin low high ps → IsSumWithin low high (negation_of ps)
negation_order low high [] s = tt
negation_order low high (p ∷ ps) s = (s.0, s.1, negated_not_zero p.coefficient s.2, negation_order (p.term + 1) high ps s.3)
