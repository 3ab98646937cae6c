-- Tests of whole numbers.
use Rattle.std.proofs.Common.{◌≡◌, Bool, true, false, refl, sym, arith}
use Rattle.std.specs.Prelude.{not, ◌&&◌, ℤ, pos, negsuc, ◌+ℤ◌, ◌-ℤ◌, neg_ℤ, int_le, int_lt, ◌≤ℤ◌, ◌<ℤ◌}
use Rattle.std.proofs.lemmas.Int.{ints}
use Rattle.std.proofs.lemmas.Bool.Decides.{nat_tests}
use Rattle.smt_meaning.specs.Term.{int_eq}

pub same_bool : (p q : Bool) → (p ≡ true → q ≡ true) → (q ≡ true → p ≡ true) → p ≡ q
same_bool true q f g = sym (f refl)
same_bool false true f g = g refl
same_bool false false f g = refl

pub le_true : (a b : ℤ) → a ≤ℤ b → int_le a b ≡ true
le_true a b h = grind (arith, ints)

pub true_le : (a b : ℤ) → int_le a b ≡ true → a ≤ℤ b
true_le a b h = grind (arith, ints)

pub lt_true : (a b : ℤ) → a <ℤ b → int_lt a b ≡ true
lt_true a b h = grind (arith, ints)

pub true_lt : (a b : ℤ) → int_lt a b ≡ true → a <ℤ b
true_lt a b h = grind (arith, ints)

pub false_lt : (a b : ℤ) → int_lt a b ≡ false → b ≤ℤ a
false_lt a b h = grind (arith, ints)

pub false_le : (a b : ℤ) → int_le a b ≡ false → b <ℤ a
false_le a b h = grind (arith, ints)

-- equality by both orders
pub eq_orders : (m n : ℤ) → int_eq m n ≡ (int_le m n && int_le n m)
eq_orders (pos m) (pos n) = grind (arith, nat_tests)
eq_orders (pos m) (negsuc n) = refl
eq_orders (negsuc m) (pos n) = refl
eq_orders (negsuc m) (negsuc n) = grind (arith, nat_tests)

-- a bound of a difference, by the value of its sum and its constant
pub le_moved : (s c m n : ℤ) → s +ℤ c ≡ m -ℤ n → int_le s (neg_ℤ c) ≡ int_le m n
le_moved s c m n e =
    same_bool (int_le s (neg_ℤ c)) (int_le m n)
    (λ h. le_true m n (let k : s ≤ℤ neg_ℤ c = true_le s (neg_ℤ c) h in omega (arith, ints)))
    (λ h. le_true s (neg_ℤ c) (let k : m ≤ℤ n = true_le m n h in omega (arith, ints)))

pub lt_moved : (s c m n : ℤ) → s +ℤ c ≡ m -ℤ n → int_le s (neg_ℤ c -ℤ pos 1) ≡ int_lt m n
lt_moved s c m n e =
    same_bool (int_le s (neg_ℤ c -ℤ pos 1)) (int_lt m n)
    (λ h. lt_true m n (let k : s ≤ℤ (neg_ℤ c -ℤ pos 1) = true_le s (neg_ℤ c -ℤ pos 1) h in omega (arith, ints)))
    (λ h. le_true s (neg_ℤ c -ℤ pos 1) (let k : m <ℤ n = true_lt m n h in omega (arith, ints)))

-- a bound of a negation is false exactly where the sum is at most the number below
pub negation_turned : (s k : ℤ) → not (int_le (neg_ℤ s) k) ≡ int_le s (negsuc 0 -ℤ k)
negation_turned s k = by_case (int_le (neg_ℤ s) k) refl
  where
    by_case : (b : Bool) → int_le (neg_ℤ s) k ≡ b → not b ≡ int_le s (negsuc 0 -ℤ k)
    by_case true e =
        let h : neg_ℤ s ≤ℤ k = true_le (neg_ℤ s) k e in
        same_bool false (int_le s (negsuc 0 -ℤ k)) (λ x. cc) (λ x. (let g : s ≤ℤ (negsuc 0 -ℤ k) = true_le s (negsuc 0 -ℤ k) x in absurd (omega (arith, ints))))
    by_case false e =
        let h : k <ℤ neg_ℤ s = false_le (neg_ℤ s) k e in
        sym (le_true s (negsuc 0 -ℤ k) (omega (arith, ints)))
