-- The order of the rational numbers, on unreduced fractions: it respects which numbers are named, sums, and products with positive ones.
use Rattle.std.proofs.Common.{◌≡◌, ◌⊎◌, inl, inr, ℕ, ◌*◌, ◌<◌, ℤ, pos, negsuc, ◌+ℤ◌, ◌*ℤ◌, ◌≤ℤ◌, ◌<ℤ◌, sym, ap, ap₂, ◌∙◌, arith, refl, List, [], ◌∷◌, Bool, true, false}
use Rattle.std.specs.Prelude.{int_lt, IsTrue}
use Rattle.std.proofs.lemmas.Int.{ints}
use Rattle.fraction128.specs.declared.ratio.Ratio.{Ratio}
use Rattle.fraction128.specs.Number.{SameNumber, unreduced_sum, unreduced_product, is_less, is_positive}
use Rattle.fraction128.proofs.LowestTerms.{pos_times}
use Rattle.fraction128.proofs.RingEquations.{var, sum, product, solve}
use Rattle.fraction128.proofs.WholeNumbers.{wholes}
use Rattle.fraction128.proofs.FieldEquations.{vars}
use Rattle.fraction128.proofs.RationalOrder.{mul_mono, mul_strict}

lt_of : (a b : ℤ) → IsTrue (int_lt a b) → a <ℤ b
lt_of a b h = grind (arith, ints)

of_lt : (a b : ℤ) → a <ℤ b → IsTrue (int_lt a b)
of_lt a b h = grind (arith, ints)

same_test : (a b c d : ℤ) → (a <ℤ b → c <ℤ d) → (c <ℤ d → a <ℤ b) → int_lt a b ≡ int_lt c d
same_test a b c d f g = by_test (int_lt a b) (int_lt c d) refl refl
  where
    by_test : (t u : Bool) → int_lt a b ≡ t → int_lt c d ≡ u → t ≡ u
    by_test true true p q = refl
    by_test false false p q = refl
    by_test true false p q = let up : c <ℤ d = f (grind (arith, ints)) in absurd (grind (arith, ints))
    by_test false true p q = let up : a <ℤ b = g (grind (arith, ints)) in absurd (grind (arith, ints))

cancel_strict : (a b : ℤ) (d : ℕ) → 0 < d → (a *ℤ pos d) <ℤ (b *ℤ pos d) → a <ℤ b
cancel_strict a b d above h = by_order (int_lt a b) refl
  where
    by_order : (t : Bool) → int_lt a b ≡ t → a <ℤ b
    by_order true e = grind (arith, ints)
    by_order false e =
        let le : b ≤ℤ a = grind (arith, ints) in
        let up = mul_mono b a d le in
        absurd (omega (arith, ints, up, h))

-- a comparison keeps its answer where both sides are multiplied by a positive number
scaled_test : (a b : ℤ) (d : ℕ) → 0 < d → int_lt (a *ℤ pos d) (b *ℤ pos d) ≡ int_lt a b
scaled_test a b d above =
    same_test (a *ℤ pos d) (b *ℤ pos d) a b (λ h. cancel_strict a b d above h) (λ h. mul_strict a b d above h)

pub total : (x y : Ratio) → IsTrue (is_less x y) ⊎ (SameNumber x y ⊎ IsTrue (is_less y x))
total x y = by_test (int_lt a b) (int_lt b a) refl refl
  where
    a : ℤ
    a = x.numerator *ℤ pos y.denominator

    b : ℤ
    b = y.numerator *ℤ pos x.denominator

    by_test : (t u : Bool) → int_lt a b ≡ t → int_lt b a ≡ u → IsTrue t ⊎ ((a ≡ b) ⊎ IsTrue u)
    by_test true u p q = inl refl
    by_test false true p q = inr (inr refl)
    by_test false false p q = inr (inl (grind (arith, ints)))

pub irreflexive : (x y : Ratio) → SameNumber x y → is_less x y ≡ false
irreflexive x y e = grind (arith, ints)

pub transitive : (x y z : Ratio) → 0 < x.denominator → 0 < y.denominator → 0 < z.denominator → IsTrue (is_less x y) → IsTrue (is_less y z) → IsTrue (is_less x z)
transitive x y z fx fy fz h k =
    let up : (x.numerator *ℤ pos y.denominator *ℤ pos z.denominator) <ℤ (y.numerator *ℤ pos x.denominator *ℤ pos z.denominator) =
    mul_strict (x.numerator *ℤ pos y.denominator) (y.numerator *ℤ pos x.denominator) z.denominator fz (lt_of (x.numerator *ℤ pos y.denominator) (y.numerator *ℤ pos x.denominator) h) in
    let on : (y.numerator *ℤ pos z.denominator *ℤ pos x.denominator) <ℤ (z.numerator *ℤ pos y.denominator *ℤ pos x.denominator) =
    mul_strict (y.numerator *ℤ pos z.denominator) (z.numerator *ℤ pos y.denominator) x.denominator fx (lt_of (y.numerator *ℤ pos z.denominator) (z.numerator *ℤ pos y.denominator) k) in
    let low : x.numerator *ℤ pos z.denominator *ℤ pos y.denominator ≡ x.numerator *ℤ pos y.denominator *ℤ pos z.denominator =
    swap x.numerator (pos z.denominator) (pos y.denominator) in
    let middle : y.numerator *ℤ pos x.denominator *ℤ pos z.denominator ≡ y.numerator *ℤ pos z.denominator *ℤ pos x.denominator =
    swap y.numerator (pos x.denominator) (pos z.denominator) in
    let high : z.numerator *ℤ pos x.denominator *ℤ pos y.denominator ≡ z.numerator *ℤ pos y.denominator *ℤ pos x.denominator =
    swap z.numerator (pos x.denominator) (pos y.denominator) in
    of_lt (x.numerator *ℤ pos z.denominator) (z.numerator *ℤ pos x.denominator)
    (cancel_strict (x.numerator *ℤ pos z.denominator) (z.numerator *ℤ pos x.denominator) y.denominator fy
    (chain _ _ _ _ _ _ low up middle on high))
  where
    swap : (a b c : ℤ) → a *ℤ b *ℤ c ≡ a *ℤ c *ℤ b
    swap a b c = solve wholes (a ∷ b ∷ c ∷ []) (product (product (var 0) (var 1)) (var 2)) (product (product (var 0) (var 2)) (var 1)) refl

    chain : (a b c d e f : ℤ) → a ≡ b → b <ℤ c → c ≡ d → d <ℤ e → f ≡ e → a <ℤ f
    chain a b c d e f p q r s t = omega (arith, ints)

-- one number in the place of another
pub less_respects : (x x' y y' : Ratio) → 0 < x.denominator → 0 < x'.denominator → 0 < y.denominator → 0 < y'.denominator → SameNumber x x' → SameNumber y y' → is_less x y ≡ is_less x' y'
less_respects x x' y y' fx fx' fy fy' e f =
    let a = x.numerator *ℤ pos y.denominator in
    let b = y.numerator *ℤ pos x.denominator in
    let c = x'.numerator *ℤ pos y'.denominator in
    let d = y'.numerator *ℤ pos x'.denominator in
    let up = x'.denominator * y'.denominator in
    let on = x.denominator * y.denominator in
    sym (scaled_test a b up (pos_times x'.denominator y'.denominator fx' fy'))
    ∙ ap₂ int_lt
    (solve wholes vs (product (product (var 0) (var 3)) (product (var 5) (var 7))) (product (product (var 0) (var 5)) (product (var 3) (var 7))) refl
    ∙ ap (λ z. z *ℤ (pos y.denominator *ℤ pos y'.denominator)) e
    ∙ solve wholes vs (product (product (var 4) (var 1)) (product (var 3) (var 7))) (product (product (var 4) (var 7)) (product (var 1) (var 3))) refl)
    (solve wholes vs (product (product (var 2) (var 1)) (product (var 5) (var 7))) (product (product (var 2) (var 7)) (product (var 1) (var 5))) refl
    ∙ ap (λ z. z *ℤ (pos x.denominator *ℤ pos x'.denominator)) f
    ∙ solve wholes vs (product (product (var 6) (var 3)) (product (var 1) (var 5))) (product (product (var 6) (var 5)) (product (var 1) (var 3))) refl)
    ∙ scaled_test c d on (pos_times x.denominator y.denominator fx fy)
  where
    vs : List ℤ
    vs = vars (x ∷ y ∷ x' ∷ y' ∷ [])

pub sum_monotone : (x y z : Ratio) → 0 < x.denominator → 0 < y.denominator → 0 < z.denominator → is_less (unreduced_sum x z) (unreduced_sum y z) ≡ is_less x y
sum_monotone x y z fx fy fz =
    ap₂ int_lt
    (solve wholes (vars (x ∷ y ∷ z ∷ [])) (product (sum (product (var 0) (var 5)) (product (var 4) (var 1))) (product (var 3) (var 5)))
    (sum (product (product (var 0) (var 3)) (product (var 5) (var 5))) (product (product (var 4) (var 5)) (product (var 1) (var 3)))) refl)
    (solve wholes (vars (x ∷ y ∷ z ∷ [])) (product (sum (product (var 2) (var 5)) (product (var 4) (var 3))) (product (var 1) (var 5)))
    (sum (product (product (var 2) (var 1)) (product (var 5) (var 5))) (product (product (var 4) (var 5)) (product (var 1) (var 3)))) refl)
    ∙ shifted (x.numerator *ℤ pos y.denominator *ℤ pos (z.denominator * z.denominator)) (y.numerator *ℤ pos x.denominator *ℤ pos (z.denominator * z.denominator))
    (z.numerator *ℤ pos z.denominator *ℤ (pos x.denominator *ℤ pos y.denominator))
    ∙ scaled_test (x.numerator *ℤ pos y.denominator) (y.numerator *ℤ pos x.denominator) (z.denominator * z.denominator) (pos_times z.denominator z.denominator fz fz)
  where
    shifted : (a b c : ℤ) → int_lt (a +ℤ c) (b +ℤ c) ≡ int_lt a b
    shifted a b c = same_test (a +ℤ c) (b +ℤ c) a b (λ h. omega (arith, ints)) (λ h. omega (arith, ints))

pub product_monotone : (x y z : Ratio) → 0 < x.denominator → 0 < y.denominator → 0 < z.denominator → IsTrue (is_positive z) → is_less (unreduced_product x z) (unreduced_product y z) ≡ is_less x y
product_monotone x y z fx fy fz h =
    ap₂ int_lt
    (solve wholes (vars (x ∷ y ∷ z ∷ [])) (product (product (var 0) (var 4)) (product (var 3) (var 5))) (product (product (var 0) (var 3)) (product (var 4) (var 5))) refl)
    (solve wholes (vars (x ∷ y ∷ z ∷ [])) (product (product (var 2) (var 4)) (product (var 1) (var 5))) (product (product (var 2) (var 1)) (product (var 4) (var 5))) refl)
    ∙ by_factor z.numerator (lt_of (pos 0) z.numerator h)
  where
    a : ℤ
    a = x.numerator *ℤ pos y.denominator

    b : ℤ
    b = y.numerator *ℤ pos x.denominator

    by_factor : (n : ℤ) → pos 0 <ℤ n → int_lt (a *ℤ (n *ℤ pos z.denominator)) (b *ℤ (n *ℤ pos z.denominator)) ≡ int_lt a b
    by_factor (pos n) k = scaled_test a b (n * z.denominator) (pos_times n z.denominator (omega (arith, ints)) fz)
    by_factor (negsuc n) k = absurd (omega (arith, ints))
