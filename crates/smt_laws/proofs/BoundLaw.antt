-- Over whole numbers a normal bound has the value of the bound.
use Rattle.std.proofs.Common.{◌≡◌, ℕ, zero, suc, ◌+◌, ◌*◌, ◌/◌, ◌<◌, ◌≤◌, List, [], ◌∷◌, ap, sym, ◌∙◌, refl, arith, Bool, true, false, leb}
use Rattle.std.specs.Prelude.{ℤ, pos, negsuc, ◌+ℤ◌, ◌*ℤ◌, neg_ℤ, int_le, unsigned_abs}
use Rattle.std.specs.Int.{int_div_euclid, IsGcd, ◌∣◌}
use Rattle.std.proofs.lemmas.Bool.{le-leb, leb-true, leb-false}
use Rattle.std.proofs.lemmas.Nat.Gcd.{dvd_trans}
use Rattle.std.proofs.Math.Nat.{le-div_iff_mul-le, div-mul_cancel, eq-zero_of_zero-dvd}
use Rattle.std.proofs.lemmas.Nat.{div-mul-add}
use Rattle.std.proofs.Math.Dec.{leb-zero}
use Rattle.std.proofs.Math.IntN.{*ℤ-zero, zero-*ℤ}
use Rattle.smt_meaning.specs.declared.clauses.Summand.{Summand}
use Rattle.smt_meaning.specs.Term.{Tree, Interpretation, number_of}
use Rattle.smt_meaning.specs.Clause.{sum_value, value_at, atom_true}
use Rattle.smt_meaning.specs.Atoms.{sum_gcd, divided, each_divided, DividesEach, normal_bound}
use Rattle.fraction128.proofs.Divisors.{IsGcd-gcd_of}
use Rattle.fraction128.proofs.Ring.{times-sum, times_assoc}

-- ---- the greatest common divisor

weaker : (g h : ℕ) (ps : List Summand) → g ∣ h → DividesEach h ps → DividesEach g ps
weaker g h [] d e = tt
weaker g h (p ∷ ps) d e = (dvd_trans g d e.0, weaker g h ps d e.1)

sum_gcd-divides : (ps : List Summand) → DividesEach (sum_gcd ps) ps
sum_gcd-divides [] = tt
sum_gcd-divides (p ∷ ps) =
    let both : IsGcd (unsigned_abs p.coefficient) (sum_gcd ps) (sum_gcd (p ∷ ps)) = IsGcd-gcd_of (unsigned_abs p.coefficient) (sum_gcd ps) in
    (both.0, weaker (sum_gcd (p ∷ ps)) (sum_gcd ps) ps both.1 (sum_gcd-divides ps))

-- ---- division

leb_same : (x y u v : ℕ) → (x ≤ y → u ≤ v) → (u ≤ v → x ≤ y) → leb x y ≡ leb u v
leb_same x y u v f g = go (leb x y) (leb u v) refl refl
  where
    go : (b c : Bool) → leb x y ≡ b → leb u v ≡ c → leb x y ≡ leb u v
    go true c e d = e ∙ sym (le-leb u v (f (leb-true x y e)))
    go false true e d = let p : x ≤ y = g (leb-true u v d) in let q : y < x = leb-false x y e in absurd (omega arith)
    go false false e d = e ∙ sym d

not_more : (x y : ℕ) → (y < x → ⊥) → x ≤ y
not_more x y h = go (leb x y) refl
  where
    go : (b : Bool) → leb x y ≡ b → x ≤ y
    go true e = leb-true x y e
    go false e = absurd (h (leb-false x y e))

at_floor : (g n a : ℕ) → 0 < g → leb (g * n) a ≡ leb n (a / g)
at_floor g n a h =
    leb_same (g * n) a n (a / g) (λ k. (le-div_iff_mul-le h).1 (let l : n * g ≤ a = omega arith in l)) (λ k. let l : n * g ≤ a = (le-div_iff_mul-le h).0 k in omega arith)

above_floor : (m n a : ℕ) → leb a (n + m * suc n) ≡ leb (a / suc m) n
above_floor m n a =
    leb_same a (n + m * suc n) (a / suc m) n
    (λ k. not_more (a / suc m) n (λ less. let l : suc n * suc m ≤ a = (le-div_iff_mul-le (omega arith)).0 less in omega arith))
    (λ k. not_more a (n + m * suc n) (λ less. let l : suc n ≤ a / suc m = (le-div_iff_mul-le (omega arith)).1 (omega arith) in omega arith))

product_suc : (m n : ℕ) → suc m * suc n ≡ suc (n + m * suc n)
product_suc m n = omega arith

-- g * s <= k exactly where s <= k / g
floor : (m : ℕ) (s k : ℤ) → int_le (pos (suc m) *ℤ s) k ≡ int_le s (int_div_euclid k (pos (suc m)))
floor m (pos n) (pos a) = at_floor (suc m) n a (omega arith)
floor m (pos n) (negsuc a) = refl
floor m (negsuc n) (pos a) = ap (λ z. int_le (neg_ℤ (pos z)) (pos a)) (product_suc m n)
floor m (negsuc n) (negsuc a) = ap (λ z. int_le (neg_ℤ (pos z)) (negsuc a)) (product_suc m n) ∙ above_floor m n a

exact_at : (m a q : ℕ) → q * suc m ≡ suc a → suc m * suc (a / suc m) ≡ suc a
exact_at m a zero e = absurd (omega arith)
exact_at m a (suc q) e =
    let same : a ≡ q * suc m + m = omega arith in
    let quotient : a / suc m ≡ q = ap (λ x. x / suc m) same ∙ div-mul-add q (suc m) m (omega arith) in
    ap (λ x. suc m * suc x) quotient ∙ omega arith

-- a number that g divides is g times its quotient
exact : (g : ℕ) (c : ℤ) → g ∣ unsigned_abs c → c ≡ pos g *ℤ int_div_euclid c (pos g)
exact g (pos a) h = let back : a / g * g ≡ a = div-mul_cancel g h in ap pos (omega arith)
exact zero (negsuc a) h = let none : suc a ≡ 0 = eq-zero_of_zero-dvd h in absurd (omega arith)
exact (suc m) (negsuc a) h = sym (ap (λ z. neg_ℤ (pos z)) (exact_at m a (suc a / suc m) (div-mul_cancel (suc m) h)))

divided_sum : (ts : List Tree) (I : Interpretation) (g : ℕ) (ps : List Summand) → DividesEach g ps → sum_value ts I ps ≡ pos g *ℤ sum_value ts I (each_divided (pos g) ps)
divided_sum ts I g [] h = sym (*ℤ-zero (pos g))
divided_sum ts I g (p ∷ ps) h =
    ap (λ c. c *ℤ number_of (value_at ts I p.term) +ℤ sum_value ts I ps) (exact g p.coefficient h.0)
    ∙ ap (λ z. z +ℤ sum_value ts I ps) (times_assoc (pos g) (divided p.coefficient (pos g)) (number_of (value_at ts I p.term)))
    ∙ ap (λ z. pos g *ℤ (divided p.coefficient (pos g) *ℤ number_of (value_at ts I p.term)) +ℤ z) (divided_sum ts I g ps h.1)
    ∙ sym (times-sum (pos g) (divided p.coefficient (pos g) *ℤ number_of (value_at ts I p.term)) (sum_value ts I (each_divided (pos g) ps)))

zero_divided : (c : ℤ) → 0 ∣ unsigned_abs c → divided c (pos 0) ≡ pos 0
zero_divided (pos a) h = ap (λ x. pos (x / 0)) (eq-zero_of_zero-dvd h)
zero_divided (negsuc a) h = let none : suc a ≡ 0 = eq-zero_of_zero-dvd h in absurd (omega arith)

-- where every coefficient is 0, so is the sum of their quotients
no_divisor : (ts : List Tree) (I : Interpretation) (ps : List Summand) → DividesEach 0 ps → sum_value ts I (each_divided (pos 0) ps) ≡ pos 0
no_divisor ts I [] h = refl
no_divisor ts I (p ∷ ps) h =
    ap (λ c. c *ℤ number_of (value_at ts I p.term) +ℤ sum_value ts I (each_divided (pos 0) ps)) (zero_divided p.coefficient h.0)
    ∙ ap (λ z. z +ℤ sum_value ts I (each_divided (pos 0) ps)) (zero-*ℤ (number_of (value_at ts I p.term)))
    ∙ ap (λ z. pos 0 +ℤ z) (no_divisor ts I ps h.1)

zero_floor : (k : ℤ) → int_le (pos 0) (divided k (pos 0)) ≡ int_le (pos 0) k
zero_floor (pos a) = leb-zero (a / 0) ∙ sym (leb-zero a)
zero_floor (negsuc a) = refl

pub bound_at : (ts : List Tree) (I : Interpretation) (g : ℕ) (ps : List Summand) (k : ℤ) → DividesEach g ps
    → int_le (sum_value ts I (each_divided (pos g) ps)) (divided k (pos g)) ≡ int_le (sum_value ts I ps) k
bound_at ts I zero ps k h =
    ap (λ z. int_le z (divided k (pos 0))) (no_divisor ts I ps h) ∙ zero_floor k
    ∙ sym (ap (λ z. int_le z k) (divided_sum ts I 0 ps h ∙ zero-*ℤ (sum_value ts I (each_divided (pos 0) ps))))
bound_at ts I (suc m) ps k h =
    sym (ap (λ z. int_le z k) (divided_sum ts I (suc m) ps h) ∙ floor m (sum_value ts I (each_divided (pos (suc m)) ps)) k)

pub normal_bound_value : (ts : List Tree) (I : Interpretation) (ps : List Summand) (k : ℤ) → atom_true ts I (normal_bound ps k) ≡ int_le (sum_value ts I ps) k
normal_bound_value ts I [] k = refl
normal_bound_value ts I (p ∷ ps) k = bound_at ts I (sum_gcd (p ∷ ps)) (p ∷ ps) k (sum_gcd-divides (p ∷ ps))
