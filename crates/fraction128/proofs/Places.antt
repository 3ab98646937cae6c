-- Sums of products in places of 32 bits.
use Rattle.std.proofs.Common.{◌≡◌, ℕ, ◌+◌, ◌^◌, ◌<◌, ◌≤◌, ℤ, pos, ◌+ℤ◌, ◌*ℤ◌, unsigned_abs, [], ◌∷◌, refl, sym, ap, ap₂, subst, ◌∙◌, arith, to_z, of_z}
use Rattle.std.specs.Prelude.{int_lt}
use Rattle.std.specs.Int.{w128}
use Rattle.std.proofs.lemmas.Int.{ints}
use Rattle.fraction128.proofs.Integers.{same_bits}
use Rattle.fraction128.proofs.RingEquations.{Term, var, sum, product, solve}
use Rattle.fraction128.proofs.WholeNumbers.{wholes}
use Rattle.fraction128.specs.declared.wide.Four.{Four}
use Rattle.fraction128.specs.declared.wide.Seven.{Seven}
use Rattle.fraction128.specs.Wide.{base, four_value, seven_value, AreFourWithin, HasGrown, AreSevenWithin}

-- a number as the machine has it
abbrev pub held : ℤ → ℤ
held z = to_z w128 (of_z w128 z)

abbrev pub fours : ℤ → ℤ → ℤ → ℤ → Four
fours d0 d1 d2 d3 = record { d0 = d0; d1 = d1; d2 = d2; d3 = d3 }

abbrev pub sevens : ℤ → ℤ → ℤ → ℤ → ℤ → ℤ → ℤ → Seven
sevens d0 d1 d2 d3 d4 d5 d6 = record { d0 = d0; d1 = d1; d2 = d2; d3 = d3; d4 = d4; d5 = d5; d6 = d6 }

pub held_is : (z : ℤ) (n : ℕ) → n < 2 ^ 127 → unsigned_abs z ≤ n → held z ≡ z
held_is z n few h = same_bits z (omega (arith, few, h))

-- ---- one place

pub place_is : (r s a b : ℤ) → unsigned_abs s ≤ 2 ^ 126 → unsigned_abs a ≤ 2 ^ 32 → unsigned_abs b ≤ 2 ^ 32 → r ≡ held s +ℤ held a *ℤ held b → unsigned_abs r ≤ unsigned_abs (held s) + 2 ^ 64
    → held r ≡ s +ℤ a *ℤ b
place_is r s a b hs ha hb e h =
    let s_is : held s ≡ s = held_is s (2 ^ 126) (omega arith) hs in
    let size : unsigned_abs (held s) ≡ unsigned_abs s = ap unsigned_abs s_is in
    same_bits r (omega (arith, h, size, hs))
    ∙ e
    ∙ ap₂ ◌+ℤ◌ s_is (ap₂ ◌*ℤ◌ (held_is a (2 ^ 32) (omega arith) ha) (held_is b (2 ^ 32) (omega arith) hb))

-- ---- four places

abbrev up : ℕ → Term → Term → Term
up i a b = sum a (product (var i) b)

digit_value : (p x : Four) (d : ℤ) → four_value (fours (p.d0 +ℤ x.d0 *ℤ d) (p.d1 +ℤ x.d1 *ℤ d) (p.d2 +ℤ x.d2 *ℤ d) (p.d3 +ℤ x.d3 *ℤ d)) ≡ four_value p +ℤ four_value x *ℤ d
digit_value p x d =
    solve wholes (p.d0 ∷ p.d1 ∷ p.d2 ∷ p.d3 ∷ x.d0 ∷ x.d1 ∷ x.d2 ∷ x.d3 ∷ d ∷ base ∷ [])
    (up 9 (sum (var 0) (product (var 4) (var 8))) (up 9 (sum (var 1) (product (var 5) (var 8))) (up 9 (sum (var 2) (product (var 6) (var 8))) (sum (var 3) (product (var 7) (var 8))))))
    (sum (up 9 (var 0) (up 9 (var 1) (up 9 (var 2) (var 3)))) (product (up 9 (var 4) (up 9 (var 5) (up 9 (var 6) (var 7)))) (var 8))) refl

pub digit_is : (p x : Four) (d r0 r1 r2 r3 : ℤ) → r0 ≡ p.d0 +ℤ x.d0 *ℤ d → r1 ≡ p.d1 +ℤ x.d1 *ℤ d → r2 ≡ p.d2 +ℤ x.d2 *ℤ d → r3 ≡ p.d3 +ℤ x.d3 *ℤ d
    → four_value (fours r0 r1 r2 r3) ≡ four_value p +ℤ four_value x *ℤ d
digit_is p x d r0 r1 r2 r3 e0 e1 e2 e3 = rw (e0, e1, e2, e3) (digit_value p x d)

pub fours_held : (n : ℕ) (d0 d1 d2 d3 : ℤ) → n < 2 ^ 127 → unsigned_abs d0 ≤ n → unsigned_abs d1 ≤ n → unsigned_abs d2 ≤ n → unsigned_abs d3 ≤ n
    → fours (held d0) (held d1) (held d2) (held d3) ≡ fours d0 d1 d2 d3
fours_held n d0 d1 d2 d3 few h0 h1 h2 h3 = rw (held_is d0 n few h0, held_is d1 n few h1, held_is d2 n few h2, held_is d3 n few h3) refl

-- ---- the next window

pub has_grown : (w a : Four) (n : ℕ) → AreFourWithin w n → HasGrown w a → AreFourWithin a (n + 2 ^ 64)
has_grown w a n h g = record {
  first = omega (arith, g.first, h.first);
  second = omega (arith, g.second, h.second);
  third = omega (arith, g.third, h.third);
  fourth = omega (arith, g.fourth, h.fourth);
}

-- the three highest places, and the next one
pub next_is : (n : ℕ) (a v : Four) (e : ℤ) → n < 2 ^ 127 → AreFourWithin a n → unsigned_abs e ≤ n → v ≡ fours (held a.d1) (held a.d2) (held a.d3) (held e) → v ≡ fours a.d1 a.d2 a.d3 e
next_is n a v e few h k is = is ∙ fours_held n a.d1 a.d2 a.d3 e few h.second h.third h.fourth k

pub next_within : (n : ℕ) (a v : Four) (e : ℤ) → n < 2 ^ 127 → AreFourWithin a n → unsigned_abs e ≤ n → v ≡ fours (held a.d1) (held a.d2) (held a.d3) (held e) → AreFourWithin v n
next_within n a v e few h k is =
    subst (λ (w : Four). AreFourWithin w n) (sym (next_is n a v e few h k is)) (record { first = h.second; second = h.third; third = h.fourth; fourth = k })

pub within_more : (w : Four) (m n : ℕ) → m ≤ n → AreFourWithin w m → AreFourWithin w n
within_more w m n more h = record {
  first = omega (arith, more, h.first);
  second = omega (arith, more, h.second);
  third = omega (arith, more, h.third);
  fourth = omega (arith, more, h.fourth);
}

-- ---- seven places

shifted : (c : Four) (q t : ℤ) → c.d0 +ℤ base *ℤ (four_value (fours c.d1 c.d2 c.d3 q) +ℤ t) ≡ four_value c +ℤ base *ℤ (base *ℤ (base *ℤ (base *ℤ q)) +ℤ t)
shifted c q t =
    solve wholes (c.d0 ∷ c.d1 ∷ c.d2 ∷ c.d3 ∷ q ∷ t ∷ base ∷ [])
    (up 6 (var 0) (sum (up 6 (var 1) (up 6 (var 2) (up 6 (var 3) (var 4)))) (var 5)))
    (sum (up 6 (var 0) (up 6 (var 1) (up 6 (var 2) (var 3)))) (product (var 6) (sum (product (var 6) (product (var 6) (product (var 6) (var 4)))) (var 5)))) refl

regrouped : (f t r : ℤ) → (f +ℤ t) +ℤ r ≡ f +ℤ (t +ℤ r)
regrouped f t r = solve wholes (f ∷ t ∷ r ∷ []) (sum (sum (var 0) (var 1)) (var 2)) (sum (var 0) (sum (var 1) (var 2))) refl

gathered : (p : Seven) (y : Four) (x : ℤ)
    → (four_value (fours p.d0 p.d1 p.d2 p.d3) +ℤ x *ℤ y.d0)
    +ℤ base *ℤ (base *ℤ (base *ℤ (base *ℤ p.d4)) +ℤ (x *ℤ y.d1 +ℤ base *ℤ (base *ℤ (base *ℤ (base *ℤ p.d5)) +ℤ (x *ℤ y.d2 +ℤ base *ℤ (base *ℤ (base *ℤ (base *ℤ p.d6)) +ℤ x *ℤ y.d3)))))
    ≡ seven_value p +ℤ x *ℤ four_value y
gathered p y x =
    solve wholes (p.d0 ∷ p.d1 ∷ p.d2 ∷ p.d3 ∷ p.d4 ∷ p.d5 ∷ p.d6 ∷ y.d0 ∷ y.d1 ∷ y.d2 ∷ y.d3 ∷ x ∷ base ∷ [])
    (sum (sum (up 12 (var 0) (up 12 (var 1) (up 12 (var 2) (var 3)))) (product (var 11) (var 7)))
    (product (var 12) (sum (cubed 4) (sum (times_x 8) (product (var 12) (sum (cubed 5) (sum (times_x 9) (product (var 12) (sum (cubed 6) (times_x 10))))))))))
    (sum (up 12 (var 0) (up 12 (var 1) (up 12 (var 2) (up 12 (var 3) (up 12 (var 4) (up 12 (var 5) (var 6)))))))
    (product (var 11) (up 12 (var 7) (up 12 (var 8) (up 12 (var 9) (var 10)))))) refl
  where
    cubed : ℕ → Term
    cubed i = product (var 12) (product (var 12) (product (var 12) (var i)))

    times_x : ℕ → Term
    times_x i = product (var 11) (var i)

pub product_is : (p : Seven) (a b c d y : Four) (x : ℤ) → four_value a ≡ four_value (fours p.d0 p.d1 p.d2 p.d3) +ℤ x *ℤ y.d0 → four_value b ≡ four_value (fours a.d1 a.d2 a.d3 p.d4) +ℤ x *ℤ y.d1
    → four_value c ≡ four_value (fours b.d1 b.d2 b.d3 p.d5) +ℤ x *ℤ y.d2 → four_value d ≡ four_value (fours c.d1 c.d2 c.d3 p.d6) +ℤ x *ℤ y.d3
    → seven_value (sevens a.d0 b.d0 c.d0 d.d0 d.d1 d.d2 d.d3) ≡ seven_value p +ℤ x *ℤ four_value y
product_is p a b c d y x ea eb ec ed =
    let t3 = x *ℤ y.d3 in
    let u3 = base *ℤ (base *ℤ (base *ℤ (base *ℤ p.d6)) +ℤ t3) in
    let t2 = x *ℤ y.d2 +ℤ u3 in
    let u2 = base *ℤ (base *ℤ (base *ℤ (base *ℤ p.d5)) +ℤ t2) in
    let t1 = x *ℤ y.d1 +ℤ u2 in
    let u1 = base *ℤ (base *ℤ (base *ℤ (base *ℤ p.d4)) +ℤ t1) in
    ap (λ z. a.d0 +ℤ base *ℤ (b.d0 +ℤ base *ℤ (c.d0 +ℤ base *ℤ z))) ed
    ∙ ap (λ z. a.d0 +ℤ base *ℤ (b.d0 +ℤ base *ℤ z)) (shifted c p.d6 t3 ∙ ap (λ z. z +ℤ u3) ec ∙ regrouped (four_value (fours b.d1 b.d2 b.d3 p.d5)) (x *ℤ y.d2) u3)
    ∙ ap (λ z. a.d0 +ℤ base *ℤ z) (shifted b p.d5 t2 ∙ ap (λ z. z +ℤ u2) eb ∙ regrouped (four_value (fours a.d1 a.d2 a.d3 p.d4)) (x *ℤ y.d1) u2)
    ∙ shifted a p.d4 t1
    ∙ ap (λ z. z +ℤ u1) ea
    ∙ gathered p y x

none_more : (z : ℤ) → z +ℤ pos 0 ≡ z
none_more z = omega (arith, ints)

-- four places, with none above them
pub places_value : (x : Four) → AreFourWithin x (2 ^ 32) → seven_value (sevens (held x.d0) (held x.d1) (held x.d2) (held x.d3) (pos 0) (pos 0) (pos 0)) ≡ four_value x
places_value x h =
    rw (held_is x.d0 (2 ^ 32) (omega arith) h.first, held_is x.d1 (2 ^ 32) (omega arith) h.second, held_is x.d2 (2 ^ 32) (omega arith) h.third, held_is x.d3 (2 ^ 32) (omega arith) h.fourth)
    (ap (λ z. x.d0 +ℤ base *ℤ (x.d1 +ℤ base *ℤ (x.d2 +ℤ base *ℤ z))) (none_more x.d3))

-- ---- the sign

-- what carrying keeps
abbrev pub KeepsSign : ℤ → ℤ → ℤ → Type 0
KeepsSign below place carried = (above : ℤ) → int_lt (below +ℤ base *ℤ (place +ℤ above)) (pos 0) ≡ int_lt (carried +ℤ above) (pos 0)

pub keeps_sign : (n : ℕ) (below place carried : ℤ) → n < 2 ^ 127 → unsigned_abs below ≤ n → unsigned_abs place ≤ n → KeepsSign (held below) (held place) carried → KeepsSign below place carried
keeps_sign n below place carried few hb hp e above =
    ap₂ (λ x y. int_lt (x +ℤ base *ℤ (y +ℤ above)) (pos 0)) (sym (held_is below n few hb)) (sym (held_is place n few hp)) ∙ e above

pub sign_is : (p : Seven) (one two three fourth five six : ℤ) → KeepsSign p.d0 p.d1 one → KeepsSign one p.d2 two → KeepsSign two p.d3 three → KeepsSign three p.d4 fourth → KeepsSign fourth p.d5 five
    → KeepsSign five p.d6 six → int_lt six (pos 0) ≡ int_lt (seven_value p) (pos 0)
sign_is p one two three fourth five six e1 e2 e3 e4 e5 e6 =
    let q6 = p.d6 in
    let q5 = p.d5 +ℤ base *ℤ q6 in
    let q4 = p.d4 +ℤ base *ℤ q5 in
    let q3 = p.d3 +ℤ base *ℤ q4 in
    let q2 = p.d2 +ℤ base *ℤ q3 in
    sym
    (e1 (base *ℤ q2) ∙ e2 (base *ℤ q3) ∙ e3 (base *ℤ q4) ∙ e4 (base *ℤ q5) ∙ e5 (base *ℤ q6)
    ∙ ap (λ z. int_lt (five +ℤ base *ℤ z) (pos 0)) (sym (none_more p.d6))
    ∙ e6 (pos 0)
    ∙ ap (λ z. int_lt z (pos 0)) (none_more six))

-- ---- the windows of a product

value_of : (a w v : Four) (x d : ℤ) → w ≡ v → unsigned_abs d ≤ 2 ^ 32 → four_value a ≡ four_value w +ℤ x *ℤ held d → four_value a ≡ four_value v +ℤ x *ℤ d
value_of a w v x d same h e = e ∙ ap₂ (λ (u : Four) z. four_value u +ℤ x *ℤ z) same (held_is d (2 ^ 32) (omega arith) h)

module _ (n : ℕ) (p : Seven) (few : n ≤ 2 ^ 125) (h : AreSevenWithin p n) (v a : Four) (is : v ≡ fours (held p.d0) (held p.d1) (held p.d2) (held p.d3)) (g : HasGrown v a) where
  first_is : v ≡ fours p.d0 p.d1 p.d2 p.d3
  first_is = is ∙ fours_held n p.d0 p.d1 p.d2 p.d3 (omega (arith, few)) h.first h.second h.third h.fourth

  a_within : AreFourWithin a (n + 2 ^ 64)
  a_within = has_grown v a n (subst (λ (w : Four). AreFourWithin w n) (sym first_is) (record { first = h.first; second = h.second; third = h.third; fourth = h.fourth })) g

  module _ (w : Four) (is2 : w ≡ fours (held a.d1) (held a.d2) (held a.d3) (held p.d4)) where
    second_is : w ≡ fours a.d1 a.d2 a.d3 p.d4
    second_is = next_is (n + 2 ^ 64) a w p.d4 (omega (arith, few)) a_within (omega (arith, h.fifth)) is2

    second_within : AreFourWithin w (n + 2 ^ 64)
    second_within = next_within (n + 2 ^ 64) a w p.d4 (omega (arith, few)) a_within (omega (arith, h.fifth)) is2

    pub second_near : AreFourWithin w (2 ^ 126)
    second_near = within_more w (n + 2 ^ 64) (2 ^ 126) (omega (arith, few)) second_within

    module _ (b : Four) (g2 : HasGrown w b) (u : Four) (is3 : u ≡ fours (held b.d1) (held b.d2) (held b.d3) (held p.d5)) where
      b_within : AreFourWithin b (n + 2 ^ 64 + 2 ^ 64)
      b_within = has_grown w b (n + 2 ^ 64) second_within g2

      third_is : u ≡ fours b.d1 b.d2 b.d3 p.d5
      third_is = next_is (n + 2 ^ 64 + 2 ^ 64) b u p.d5 (omega (arith, few)) b_within (omega (arith, h.sixth)) is3

      third_within : AreFourWithin u (n + 2 ^ 64 + 2 ^ 64)
      third_within = next_within (n + 2 ^ 64 + 2 ^ 64) b u p.d5 (omega (arith, few)) b_within (omega (arith, h.sixth)) is3

      pub third_near : AreFourWithin u (2 ^ 126)
      third_near = within_more u (n + 2 ^ 64 + 2 ^ 64) (2 ^ 126) (omega (arith, few)) third_within

      module _ (c : Four) (g3 : HasGrown u c) (t : Four) (is4 : t ≡ fours (held c.d1) (held c.d2) (held c.d3) (held p.d6)) where
        c_within : AreFourWithin c (n + 2 ^ 64 + 2 ^ 64 + 2 ^ 64)
        c_within = has_grown u c (n + 2 ^ 64 + 2 ^ 64) third_within g3

        fourth_is : t ≡ fours c.d1 c.d2 c.d3 p.d6
        fourth_is = next_is (n + 2 ^ 64 + 2 ^ 64 + 2 ^ 64) c t p.d6 (omega (arith, few)) c_within (omega (arith, h.seventh)) is4

        fourth_within : AreFourWithin t (n + 2 ^ 64 + 2 ^ 64 + 2 ^ 64)
        fourth_within = next_within (n + 2 ^ 64 + 2 ^ 64 + 2 ^ 64) c t p.d6 (omega (arith, few)) c_within (omega (arith, h.seventh)) is4

        pub fourth_near : AreFourWithin t (2 ^ 126)
        fourth_near = within_more t (n + 2 ^ 64 + 2 ^ 64 + 2 ^ 64) (2 ^ 126) (omega (arith, few)) fourth_within

        module _ (d : Four) (g4 : HasGrown t d) where
          d_within : AreFourWithin d (n + 2 ^ 66)
          d_within = within_more d (n + 2 ^ 64 + 2 ^ 64 + 2 ^ 64 + 2 ^ 64) (n + 2 ^ 66) (omega arith) (has_grown t d (n + 2 ^ 64 + 2 ^ 64 + 2 ^ 64) fourth_within g4)

          sevens_held : sevens (held a.d0) (held b.d0) (held c.d0) (held d.d0) (held d.d1) (held d.d2) (held d.d3) ≡ sevens a.d0 b.d0 c.d0 d.d0 d.d1 d.d2 d.d3
          sevens_held =
              rw (
                held_is a.d0 (n + 2 ^ 64) (omega (arith, few)) a_within.first,
                held_is b.d0 (n + 2 ^ 64 + 2 ^ 64) (omega (arith, few)) b_within.first,
                held_is c.d0 (n + 2 ^ 64 + 2 ^ 64 + 2 ^ 64) (omega (arith, few)) c_within.first,
                held_is d.d0 (n + 2 ^ 66) (omega (arith, few)) d_within.first,
                held_is d.d1 (n + 2 ^ 66) (omega (arith, few)) d_within.second,
                held_is d.d2 (n + 2 ^ 66) (omega (arith, few)) d_within.third,
                held_is d.d3 (n + 2 ^ 66) (omega (arith, few)) d_within.fourth,
              ) refl

          pub product_within : AreSevenWithin (sevens (held a.d0) (held b.d0) (held c.d0) (held d.d0) (held d.d1) (held d.d2) (held d.d3)) (n + 2 ^ 66)
          product_within =
              subst (λ (r : Seven). AreSevenWithin r (n + 2 ^ 66)) (sym sevens_held)
              (record {
                first = omega (arith, a_within.first);
                second = omega (arith, b_within.first);
                third = omega (arith, c_within.first);
                fourth = d_within.first;
                fifth = d_within.second;
                sixth = d_within.third;
                seventh = d_within.fourth;
              })

          pub product_value : (x y : Four) → AreFourWithin y (2 ^ 32) → four_value a ≡ four_value v +ℤ four_value x *ℤ held y.d0 → four_value b ≡ four_value w +ℤ four_value x *ℤ held y.d1
              → four_value c ≡ four_value u +ℤ four_value x *ℤ held y.d2 → four_value d ≡ four_value t +ℤ four_value x *ℤ held y.d3
              → seven_value (sevens (held a.d0) (held b.d0) (held c.d0) (held d.d0) (held d.d1) (held d.d2) (held d.d3)) ≡ seven_value p +ℤ four_value x *ℤ four_value y
          product_value x y small ea eb ec ed =
              ap seven_value sevens_held
              ∙ product_is p a b c d y (four_value x) (value_of a v (fours p.d0 p.d1 p.d2 p.d3) (four_value x) y.d0 first_is small.first ea)
              (value_of b w (fours a.d1 a.d2 a.d3 p.d4) (four_value x) y.d1 second_is small.second eb)
              (value_of c u (fours b.d1 b.d2 b.d3 p.d5) (four_value x) y.d2 third_is small.third ec)
              (value_of d t (fours c.d1 c.d2 c.d3 p.d6) (four_value x) y.d3 fourth_is small.fourth ed)

pub seven_more : (p : Seven) (m n : ℕ) → m ≤ n → AreSevenWithin p m → AreSevenWithin p n
seven_more p m n more h = record {
  first = omega (arith, more, h.first);
  second = omega (arith, more, h.second);
  third = omega (arith, more, h.third);
  fourth = omega (arith, more, h.fourth);
  fifth = omega (arith, more, h.fifth);
  sixth = omega (arith, more, h.sixth);
  seventh = omega (arith, more, h.seventh);
}
