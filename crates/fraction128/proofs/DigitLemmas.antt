-- Products of digits, and numbers read from their digits.
use Rattle.std.proofs.Common.{Bool, true, false, cond, ◌&&◌, List, [], ◌∷◌, Option, Some, None, refl, neg_ℤ, ◌+◌, ◌≡◌, ℕ, ◌*◌, ◌^◌, ◌<◌, ◌≤◌, ℤ, pos, ◌+ℤ◌, ◌*ℤ◌, ◌<ℤ◌, ◌≤ℤ◌, unsigned_abs, sym, ap, ap₂, ◌∙◌, subst, arith, to_z, of_z}
use Rattle.std.specs.Prelude.{int_lt, int_le, length, drop, get_or}
use Rattle.std.proofs.Common.{drop-cons, add-one}
use Rattle.std.proofs.lemmas.List.{drop_all}
use Rattle.fraction128.specs.Dot.{dot_of}
use Rattle.std.specs.Int.{w128}
use Rattle.std.proofs.lemmas.Nat.{mul-le}
use Rattle.std.proofs.lemmas.Int.{ints, unsigned_abs-mul}
use Rattle.fraction128.specs.Whole.{InRange}
use Rattle.fraction128.proofs.Integers.{same_bits}
use Rattle.fraction128.proofs.RingEquations.{var, sum, product, solve}
use Rattle.fraction128.proofs.WholeNumbers.{wholes}
use Rattle.fraction128.specs.declared.wide.Seven.{Seven}
use Rattle.fraction128.specs.Wide.{base, seven_value}
use Rattle.fraction128.specs.Digits.{IsDigit, IsSettled, held, next}

-- what the machine's product of two bounded numbers is
pub times_is : (a b : ℤ) (m n : ℕ) → unsigned_abs a ≤ m → unsigned_abs b ≤ n → m * n < 2 ^ 127 → m < 2 ^ 127 → n < 2 ^ 127
    → (to_z w128 (of_z w128 (to_z w128 (of_z w128 a) *ℤ to_z w128 (of_z w128 b))) ≡ a *ℤ b) × (unsigned_abs (a *ℤ b) ≤ m * n)
times_is a b m n ha hb h hm hn =
    let bound : unsigned_abs (a *ℤ b) ≤ m * n = subst (λ k. k ≤ m * n) (sym (unsigned_abs-mul a b)) (mul-le (unsigned_abs a) (unsigned_abs b) m n ha hb) in
    let at_a : to_z w128 (of_z w128 a) ≡ a = same_bits a (omega arith) in
    let at_b : to_z w128 (of_z w128 b) ≡ b = same_bits b (omega arith) in
    (ap (λ z. to_z w128 (of_z w128 z)) (ap₂ ◌*ℤ◌ at_a at_b) ∙ same_bits (a *ℤ b) (omega arith), bound)

-- ---- carrying

carried_past : (d c p q b : ℤ) → d +ℤ base *ℤ c ≡ p +ℤ b → d +ℤ base *ℤ (q +ℤ c) ≡ (p +ℤ base *ℤ q) +ℤ b
carried_past d c p q b e =
    solve wholes (d ∷ base ∷ q ∷ c ∷ []) (sum (var 0) (product (var 1) (sum (var 2) (var 3)))) (sum (sum (var 0) (product (var 1) (var 3))) (product (var 1) (var 2))) refl
    ∙ ap (λ z. z +ℤ base *ℤ q) e
    ∙ solve wholes (p ∷ b ∷ base ∷ q ∷ []) (sum (sum (var 0) (var 1)) (product (var 2) (var 3))) (sum (sum (var 0) (product (var 2) (var 3))) (var 1)) refl

pub settled_value : (w : Seven) (d0 d1 d2 d3 d4 d5 c0 c1 c2 c3 c4 c5 : ℤ) → d0 +ℤ base *ℤ c0 ≡ w.d0 +ℤ pos 0 → d1 +ℤ base *ℤ c1 ≡ w.d1 +ℤ c0 → d2 +ℤ base *ℤ c2 ≡ w.d2 +ℤ c1
    → d3 +ℤ base *ℤ c3 ≡ w.d3 +ℤ c2 → d4 +ℤ base *ℤ c4 ≡ w.d4 +ℤ c3 → d5 +ℤ base *ℤ c5 ≡ w.d5 +ℤ c4
    → (let r : Seven = record { d0 = d0; d1 = d1; d2 = d2; d3 = d3; d4 = d4; d5 = d5; d6 = w.d6 +ℤ c5 } in seven_value r ≡ seven_value w)
settled_value w d0 d1 d2 d3 d4 d5 c0 c1 c2 c3 c4 c5 e0 e1 e2 e3 e4 e5 =
    let q6 = w.d6 in
    let q5 = w.d5 +ℤ base *ℤ q6 in
    let q4 = w.d4 +ℤ base *ℤ q5 in
    let q3 = w.d3 +ℤ base *ℤ q4 in
    let q2 = w.d2 +ℤ base *ℤ q3 in
    let q1 = w.d1 +ℤ base *ℤ q2 in
    ap (λ z. d0 +ℤ base *ℤ (d1 +ℤ base *ℤ (d2 +ℤ base *ℤ (d3 +ℤ base *ℤ (d4 +ℤ base *ℤ z))))) (carried_past d5 c5 w.d5 q6 c4 e5)
    ∙ ap (λ z. d0 +ℤ base *ℤ (d1 +ℤ base *ℤ (d2 +ℤ base *ℤ (d3 +ℤ base *ℤ z)))) (carried_past d4 c4 w.d4 q5 c3 e4)
    ∙ ap (λ z. d0 +ℤ base *ℤ (d1 +ℤ base *ℤ (d2 +ℤ base *ℤ z))) (carried_past d3 c3 w.d3 q4 c2 e3)
    ∙ ap (λ z. d0 +ℤ base *ℤ (d1 +ℤ base *ℤ z)) (carried_past d2 c2 w.d2 q3 c1 e2)
    ∙ ap (λ z. d0 +ℤ base *ℤ z) (carried_past d1 c1 w.d1 q2 c0 e1)
    ∙ carried_past d0 c0 w.d0 q1 (pos 0) e0
    ∙ add_none (w.d0 +ℤ base *ℤ q1)
  where
    add_none : (z : ℤ) → z +ℤ pos 0 ≡ z
    add_none z = omega (arith, ints)

-- ---- reading

-- a number of the machine is held as it is
pub held_itself : (n : ℤ) → neg_ℤ (pos (2 ^ 127)) ≤ℤ n → n <ℤ pos (2 ^ 127) → held n ≡ Some n
held_itself n low high = by_tests (int_le (neg_ℤ (pos (2 ^ 127))) n) (int_lt n (pos (2 ^ 127))) refl refl
  where
    by_tests : (t u : Bool) → int_le (neg_ℤ (pos (2 ^ 127))) n ≡ t → int_lt n (pos (2 ^ 127)) ≡ u → cond (t && u) (Some n) None ≡ Some n
    by_tests true true p q = refl
    by_tests true false p q = absurd (grind (arith, ints))
    by_tests false u p q = absurd (grind (arith, ints))

not_held : (n : ℤ) → (neg_ℤ (pos (2 ^ 127)) ≤ℤ n → n <ℤ pos (2 ^ 127) → ⊥) → held n ≡ None
not_held n out = by_tests (int_le (neg_ℤ (pos (2 ^ 127))) n) (int_lt n (pos (2 ^ 127))) refl refl
  where
    by_tests : (t u : Bool) → int_le (neg_ℤ (pos (2 ^ 127))) n ≡ t → int_lt n (pos (2 ^ 127)) ≡ u → cond (t && u) (Some n) None ≡ None
    by_tests true true p q = absurd (out (grind (arith, ints)) (grind (arith, ints)))
    by_tests true false p q = refl
    by_tests false u p q = refl

-- a digit below a number that is too large leaves it too large
pub next_held : (n d : ℤ) → IsDigit d → next (held n) d ≡ held (d +ℤ base *ℤ n)
next_held n d h = by_tests (int_le (neg_ℤ (pos (2 ^ 127))) n) (int_lt n (pos (2 ^ 127))) refl refl
  where
    by_tests : (t u : Bool) → int_le (neg_ℤ (pos (2 ^ 127))) n ≡ t → int_lt n (pos (2 ^ 127)) ≡ u → next (cond (t && u) (Some n) None) d ≡ held (d +ℤ base *ℤ n)
    by_tests true true p q = refl
    by_tests true false p q =
        let above : pos (2 ^ 127) ≤ℤ n = grind (arith, ints) in
        sym (not_held (d +ℤ base *ℤ n) (λ low high. omega (arith, ints, h.0, h.1, above)))
    by_tests false u p q =
        let below : n <ℤ neg_ℤ (pos (2 ^ 127)) = grind (arith, ints) in
        sym (not_held (d +ℤ base *ℤ n) (λ low high. omega (arith, ints, h.0, h.1, below)))

-- ---- what the machine reads back

pub digit_back : (d : ℤ) → IsDigit d → to_z w128 (of_z w128 d) ≡ d
digit_back d h = same_bits d (omega (arith, ints, h.0, h.1))

-- a sum of two numbers with room
pub both_back : (d e : ℤ) → unsigned_abs d + unsigned_abs e < 2 ^ 127 → to_z w128 (of_z w128 (to_z w128 (of_z w128 d) +ℤ to_z w128 (of_z w128 e))) ≡ d +ℤ e
both_back d e h =
    ap (λ z. to_z w128 (of_z w128 z)) (ap₂ ◌+ℤ◌ (same_bits d (omega (arith, h))) (same_bits e (omega (arith, h)))) ∙ same_bits (d +ℤ e) (omega (arith, ints, h))

-- ---- the sum of all pairs

dot_shift : (k z : ℤ) (ps : List (ℤ × ℤ)) → dot_of (k +ℤ z) ps ≡ z +ℤ dot_of k ps
dot_shift k z [] = omega (arith, ints)
dot_shift k z (p ∷ ps) = let e = dot_shift k z ps in omega (arith, ints, e)

-- one pair more
pub dot_more : (v v' : ℤ) (all : ℤ) (ps : List (ℤ × ℤ)) (i : ℕ) (d : ℤ × ℤ) → i < length ps → dot_of v (drop i ps) ≡ all → v' ≡ v +ℤ (get_or ps i d).0 *ℤ (get_or ps i d).1
    → dot_of v' (drop (i + 1) ps) ≡ all
dot_more v v' all ps i d h e f =
    ap (λ z. dot_of z (drop (i + 1) ps)) f ∙ dot_shift v ((get_or ps i d).0 *ℤ (get_or ps i d).1) (drop (i + 1) ps)
    ∙ sym (ap (dot_of v) (drop_here ps i d h))
    ∙ e
  where
    drop_here : (qs : List (ℤ × ℤ)) (k : ℕ) (x : ℤ × ℤ) → k < length qs → drop k qs ≡ get_or qs k x ∷ drop (k + 1) qs
    drop_here qs k x lt = rw add-one (drop-cons qs k x lt)

pub dot_all : (v all : ℤ) (ps : List (ℤ × ℤ)) (i : ℕ) → length ps ≤ i → dot_of v (drop i ps) ≡ all → v ≡ all
dot_all v all ps i h e = ap (dot_of v) (sym (drop_end ps i h)) ∙ e
  where
    drop_end : (qs : List (ℤ × ℤ)) (j : ℕ) → length qs ≤ j → drop j qs ≡ []
    drop_end qs j g = drop_all j qs g

-- ---- facts that are stated on the machine's words

pub product_back : (r a b : ℤ) → unsigned_abs a ≤ 2 ^ 32 → unsigned_abs b ≤ 2 ^ 32 → r ≡ to_z w128 (of_z w128 a) *ℤ to_z w128 (of_z w128 b) → r ≡ a *ℤ b
product_back r a b ha hb e = e ∙ ap₂ ◌*ℤ◌ (same_bits a (omega (arith, ha))) (same_bits b (omega (arith, hb)))

pub carried_first : (d c p : ℤ) → unsigned_abs p ≤ 2 ^ 125 → d +ℤ base *ℤ c ≡ to_z w128 (of_z w128 p) +ℤ pos 0 → d +ℤ base *ℤ c ≡ p +ℤ pos 0
carried_first d c p hp e = e ∙ ap (λ z. z +ℤ pos 0) (same_bits p (omega (arith, hp)))

pub carried_back : (d c p q : ℤ) → unsigned_abs p ≤ 2 ^ 125 → unsigned_abs q ≤ 2 ^ 94 → d +ℤ base *ℤ c ≡ to_z w128 (of_z w128 p) +ℤ to_z w128 (of_z w128 q) → d +ℤ base *ℤ c ≡ p +ℤ q
carried_back d c p q hp hq e = e ∙ ap₂ ◌+ℤ◌ (same_bits p (omega (arith, hp))) (same_bits q (omega (arith, hq)))

-- a number that is held is in the range unless it is the least
pub held_some : (n m : ℤ) → Some m ≡ held n → m ≡ n
held_some n m e = by_tests (int_le (neg_ℤ (pos (2 ^ 127))) n && int_lt n (pos (2 ^ 127))) e
  where
    by_tests : (t : Bool) → Some m ≡ cond t (Some n) None → m ≡ n
    by_tests true p = cc
    by_tests false p = absurd (cc)

pub held_none : (n : ℤ) → None ≡ held n → InRange n → ⊥
held_none n e r = by_tests (let p : Some n ≡ held n = sym (held_itself n (omega (arith, ints, r)) (omega (arith, ints, r))) in cc)
  where
    by_tests : Some n ≡ None → ⊥
    by_tests p = absurd (cc)

pub word_is : (w : Seven) (o5 o4 o3 o2 o1 r : Option ℤ) → IsSettled w → o5 ≡ next (Some (to_z w128 (of_z w128 w.d6))) (to_z w128 (of_z w128 w.d5))
    → o4 ≡ next o5 (to_z w128 (of_z w128 w.d4)) → o3 ≡ next o4 (to_z w128 (of_z w128 w.d3)) → o2 ≡ next o3 (to_z w128 (of_z w128 w.d2))
    → o1 ≡ next o2 (to_z w128 (of_z w128 w.d1)) → r ≡ next o1 (to_z w128 (of_z w128 w.d0)) → r ≡ held (seven_value w)
word_is w o5 o4 o3 o2 o1 r s e5 e4 e3 e2 e1 e0 =
    let p6 = w.d6 in
    let p5 = w.d5 +ℤ base *ℤ p6 in
    let p4 = w.d4 +ℤ base *ℤ p5 in
    let p3 = w.d3 +ℤ base *ℤ p4 in
    let p2 = w.d2 +ℤ base *ℤ p3 in
    let p1 = w.d1 +ℤ base *ℤ p2 in
    let itself : Some p6 ≡ held p6 = sym (held_itself p6 (omega (arith, ints, s.seventh)) (omega (arith, ints, s.seventh))) in
    let h5 : o5 ≡ held p5 = e5 ∙ ap₂ (λ a b. next (Some a) b) (same_bits w.d6 s.seventh) (digit_back w.d5 s.sixth) ∙ ap (λ o. next o w.d5) itself ∙ next_held p6 w.d5 s.sixth in
    let h4 : o4 ≡ held p4 = e4 ∙ ap (next o5) (digit_back w.d4 s.fifth) ∙ ap (λ o. next o w.d4) h5 ∙ next_held p5 w.d4 s.fifth in
    let h3 : o3 ≡ held p3 = e3 ∙ ap (next o4) (digit_back w.d3 s.fourth) ∙ ap (λ o. next o w.d3) h4 ∙ next_held p4 w.d3 s.fourth in
    let h2 : o2 ≡ held p2 = e2 ∙ ap (next o3) (digit_back w.d2 s.third) ∙ ap (λ o. next o w.d2) h3 ∙ next_held p3 w.d2 s.third in
    let h1 : o1 ≡ held p1 = e1 ∙ ap (next o2) (digit_back w.d1 s.second) ∙ ap (λ o. next o w.d1) h2 ∙ next_held p2 w.d1 s.second in
    e0 ∙ ap (next o1) (digit_back w.d0 s.first) ∙ ap (λ o. next o w.d0) h1 ∙ next_held p1 w.d0 s.first
