-- Numbers of progressions, and divisors.
use Rattle.std.proofs.Common.{◌≡◌, ℕ, zero, suc, ◌*◌, ◌/◌, ◌%◌, ◌^◌, ◌<◌, ◌≤◌, ℤ, pos, negsuc, ◌+ℤ◌, ◌*ℤ◌, ◌<ℤ◌, neg_ℤ, unsigned_abs, Option, Some, None, [], ◌∷◌, refl, sym, ap, ap₂, ◌∙◌, subst, arith}
use Rattle.std.specs.Prelude.{IfSome}
use Rattle.std.specs.Int.{IsGcd, ◌∣◌}
use Rattle.std.specs.Int.RustNames.{int_div, int_rem}
use Rattle.std.proofs.Math.Nat.{mul-one, div-le_self, mod-eq-zero_of_dvd, dvd-mul_right}
use Rattle.std.proofs.Math.IntN.{zero-*ℤ}
use Rattle.std.proofs.lemmas.Int.{ints, unsigned_abs-mul}
use Rattle.fraction128.specs.declared.ratio.Ratio.{Ratio}
use Rattle.fraction128.specs.Gcd.{gcd_of}
use Rattle.fraction128.specs.Whole.{InRange}
use Rattle.fraction128.specs.Number.{whole, SameNumber, unreduced_sum, unreduced_product}
use Rattle.fraction128.proofs.Comparisons.{times_cancel}
use Rattle.fraction128.proofs.Divisors.{IsGcd-gcd_of}
use Rattle.fraction128.proofs.Integers.{quot-times}
use Rattle.fraction128.proofs.RingEquations.{var, sum, product, nothing, solve}
use Rattle.fraction128.proofs.WholeNumbers.{wholes}
use Rattle.sum_bounds.specs.Progressions.{State, Has, MayBe, IsScaled, Adds}

-- ---- scaling

pub has_scaled : (s u : State) (f : ℤ) → u.scale ≡ s.scale *ℤ f → u.step ≡ s.step *ℤ f → u.start ≡ s.start *ℤ f → (x : Ratio) → Has s x → Has u x
has_scaled s u f a b c x (m, e) = (
  m,
  ap (λ k. k *ℤ x.numerator) a
      ∙ solve wholes (s.scale ∷ f ∷ x.numerator ∷ []) (product (product (var 0) (var 1)) (var 2)) (product (var 1) (product (var 0) (var 2))) refl
      ∙ ap (λ k. f *ℤ k) e
      ∙ solve wholes (s.step ∷ f ∷ m ∷ s.start ∷ pos x.denominator ∷ [])
      (product (var 1) (product (sum (product (var 0) (var 2)) (var 3)) (var 4)))
      (product (sum (product (product (var 0) (var 1)) (var 2)) (product (var 3) (var 1))) (var 4)) refl
      ∙ sym (ap₂ (λ k l. (k *ℤ m +ℤ l) *ℤ pos x.denominator) b c),
)

pub is_scaled : (s u : State) (f : ℤ) → u.scale ≡ s.scale *ℤ f → u.step ≡ s.step *ℤ f → u.start ≡ s.start *ℤ f → IsScaled s f u
is_scaled s u f a b c = record { scale = a; keeps = has_scaled s u f a b c }

-- ---- widening

-- a number that the divisor of absolute values divides
multiple_of : (g : ℕ) (z : ℤ) → g ∣ unsigned_abs z → pos g *ℤ int_div z (pos g) ≡ z
multiple_of g z d = solve wholes (pos g ∷ int_div z (pos g) ∷ []) (product (var 0) (var 1)) (product (var 1) (var 0)) refl ∙ quot-times z g d

has_both_of : (a b : ℤ) (g : ℕ) → g ≡ gcd_of (unsigned_abs a) (unsigned_abs b) → (m z : ℤ) → (n : ℤ) × (pos g *ℤ n ≡ a *ℤ m +ℤ b *ℤ z)
has_both_of a b g is m z =
    let d : IsGcd (unsigned_abs a) (unsigned_abs b) g = subst (IsGcd (unsigned_abs a) (unsigned_abs b)) (sym is) (IsGcd-gcd_of (unsigned_abs a) (unsigned_abs b)) in
    let p = int_div a (pos g) in
    let q = int_div b (pos g) in (
      p *ℤ m +ℤ q *ℤ z,
      solve wholes (pos g ∷ p ∷ m ∷ q ∷ z ∷ []) (product (var 0) (sum (product (var 1) (var 2)) (product (var 3) (var 4)))) (sum (product (product (var 0) (var 1)) (var 2)) (product (product (var 0) (var 3)) (var 4))) refl
          ∙ ap₂ (λ k l. k *ℤ m +ℤ l *ℤ z) (multiple_of g a d.0) (multiple_of g b d.1),
    )

pub has_both : (a b r : ℤ) → r ≡ pos (gcd_of (unsigned_abs a) (unsigned_abs b)) → (m z : ℤ) → (n : ℤ) × (r *ℤ n ≡ a *ℤ m +ℤ b *ℤ z)
has_both a b r is m z = let h = has_both_of a b (gcd_of (unsigned_abs a) (unsigned_abs b)) refl m z in (h.0, ap (λ k. k *ℤ h.0) is ∙ h.1)

-- ---- a part more

pub has_more : (s u p : State) (a : Ratio) (fixed : Option ℤ) (up down w : ℤ) → IsScaled s up u → s.scale *ℤ up ≡ pos a.denominator *ℤ down → w ≡ a.numerator *ℤ down → Adds u w fixed p
    → (z : ℤ) (x : Ratio) → MayBe fixed z → Has s x → Has p (unreduced_sum (unreduced_product a (whole z)) x)
has_more s u p a fixed up down w scaled same weight adds z x may h =
    let (m, e) = scaled.keeps x h in
    let (n, f) = adds.sums z m may in
    let an = a.numerator in
    let ad = pos a.denominator in
    let xn = x.numerator in
    let xd = pos x.denominator in
    let b = u.step *ℤ m +ℤ u.start in
    let k : p.scale ≡ ad *ℤ down = adds.scale ∙ scaled.scale ∙ same in
    let one : a.denominator * 1 ≡ a.denominator = mul-one a.denominator in
    let first : (ad *ℤ down) *ℤ xn ≡ b *ℤ xd = ap (λ y. y *ℤ xn) (sym (scaled.scale ∙ same)) ∙ e in (
      n,
      ap₂ (λ y o. y *ℤ ((an *ℤ z) *ℤ xd +ℤ xn *ℤ pos o)) k one
          ∙ solve wholes (ad ∷ down ∷ an ∷ z ∷ xd ∷ xn ∷ [])
          (product (product (var 0) (var 1)) (sum (product (product (var 2) (var 3)) (var 4)) (product (var 5) (var 0))))
          (sum (product (product (product (var 2) (var 1)) (var 3)) (product (var 0) (var 4))) (product (product (product (var 0) (var 1)) (var 5)) (var 0))) refl
          ∙ ap₂ (λ y o. (y *ℤ z) *ℤ (ad *ℤ xd) +ℤ o *ℤ ad) (sym weight) first
          ∙ solve wholes (ad ∷ w ∷ z ∷ xd ∷ b ∷ [])
          (sum (product (product (var 1) (var 2)) (product (var 0) (var 3))) (product (product (var 4) (var 3)) (var 0)))
          (product (sum (var 4) (product (var 1) (var 2))) (product (var 0) (var 3))) refl
          ∙ ap₂ (λ y o. y *ℤ pos (o * x.denominator)) (sym f) (sym one),
    )

if_more : (s u : State) (a : Ratio) (fixed : Option ℤ) (up down w : ℤ) → IsScaled s up u → s.scale *ℤ up ≡ pos a.denominator *ℤ down → w ≡ a.numerator *ℤ down
    → (o : Option State) → IfSome o (Adds u w fixed)
    → IfSome o (λ p. (z : ℤ) (x : Ratio) → MayBe fixed z → Has s x → Has p (unreduced_sum (unreduced_product a (whole z)) x))
if_more s u a fixed up down w scaled same weight None h = tt
if_more s u a fixed up down w scaled same weight (Some p) h = has_more s u p a fixed up down w scaled same weight h

pub part_added : (s u : State) (a : Ratio) (fixed : Option ℤ) (up down w an ad : ℤ) → IsScaled s up u → s.scale *ℤ up ≡ ad *ℤ down → ad ≡ pos a.denominator → w ≡ an *ℤ down → an ≡ a.numerator
    → (o : Option State) → IfSome o (Adds u w fixed)
    → IfSome o (λ p. (z : ℤ) (x : Ratio) → MayBe fixed z → Has s x → Has p (unreduced_sum (unreduced_product a (whole z)) x))
part_added s u a fixed up down w an ad scaled same d weight n o h = if_more s u a fixed up down w scaled (same ∙ ap (λ y. y *ℤ down) d) (weight ∙ ap (λ y. y *ℤ down) n) o h

-- ---- a weight more

moved_adds : (s p : State) (w k by : ℤ) → by ≡ w *ℤ k → p ≡ record s { start = s.start +ℤ by } → Adds s w (Some k) p
moved_adds s p w k by is e =
    subst (Adds s w (Some k)) (sym e) (record {
      scale = refl;
      sums = λ z m at. (
        m,
        ap (λ y. s.step *ℤ m +ℤ (s.start +ℤ y)) (is ∙ ap (λ y. w *ℤ y) (sym at))
            ∙ solve wholes ((s.step *ℤ m) ∷ s.start ∷ (w *ℤ z) ∷ []) (sum (var 0) (sum (var 1) (var 2))) (sum (sum (var 0) (var 1)) (var 2)) refl,
      );
    })

pub if_moved : (s : State) (w k by : ℤ) (fixed : Option ℤ) → fixed ≡ Some k → by ≡ w *ℤ k → (o : Option State) → IfSome o (λ p. p ≡ record s { start = s.start +ℤ by }) → IfSome o (Adds s w fixed)
if_moved s w k by fixed is e None h = tt
if_moved s w k by fixed is e (Some p) h = subst (λ (f : Option ℤ). Adds s w f p) (sym is) (moved_adds s p w k by e h)

pub widened_adds : (s p : State) (w : ℤ) (fixed : Option ℤ) → fixed ≡ None → (p.scale ≡ s.scale) × (p.start ≡ s.start) → ((m z : ℤ) → (n : ℤ) × (p.step *ℤ n ≡ s.step *ℤ m +ℤ w *ℤ z)) → Adds s w fixed p
widened_adds s p w fixed is same has = record {
  scale = same.0;
  sums = λ z m may.
      let (n, e) = has m z in (
        n,
        ap₂ (λ x y. x +ℤ y) e same.1
            ∙ solve wholes ((s.step *ℤ m) ∷ (w *ℤ z) ∷ s.start ∷ []) (sum (sum (var 0) (var 1)) (var 2)) (sum (sum (var 0) (var 2)) (var 1)) refl,
      );
}

-- ---- divisors

pub exact_quotient : (z d : ℤ) → pos 0 <ℤ z → pos 0 <ℤ d → unsigned_abs d ∣ unsigned_abs z → InRange z → InRange (int_div z d) × (pos 0 <ℤ int_div z d) × (int_div z d *ℤ d ≡ z)
exact_quotient (pos n) (pos k) zp dp h f =
    let e : int_div (pos n) (pos k) *ℤ pos k ≡ pos n = quot-times (pos n) k h in
    let e' : pos (n / k * k) ≡ pos n = e in
    let le : n / k ≤ n = div-le_self n k in
    let small : n < 2 ^ 127 = f in
    let less : n / k < 2 ^ 127 = omega (arith, le, small) in
    (less, above (n / k) e', e)
  where
    above : (q : ℕ) → pos (q * k) ≡ pos n → pos 0 <ℤ pos q
    above zero e = absurd (let none : 0 * k ≡ 0 = omega arith in let i : pos 0 ≡ pos n = sym (ap pos none) ∙ e in omega (arith, ints, i, zp))
    above (suc q) e = omega (arith, ints)
exact_quotient (pos n) (negsuc k) zp dp h f = absurd (omega (arith, ints, dp))
exact_quotient (negsuc n) d zp dp h f = absurd (omega (arith, ints, zp))

-- the greatest common divisor of positive numbers
pub record IsDivisor (a b g : ℤ) : Type 0 where
  pub positive : pos 0 <ℤ g
  pub left : unsigned_abs g ∣ unsigned_abs a
  pub right : unsigned_abs g ∣ unsigned_abs b

pub divisor_is : (a b g : ℤ) → pos 0 <ℤ a → g ≡ pos (gcd_of (unsigned_abs a) (unsigned_abs b)) → IsDivisor a b g
divisor_is a b g above is =
    let d : IsGcd (unsigned_abs a) (unsigned_abs b) (gcd_of (unsigned_abs a) (unsigned_abs b)) = IsGcd-gcd_of (unsigned_abs a) (unsigned_abs b) in
    subst (IsDivisor a b) (sym is) (record { positive = by (gcd_of (unsigned_abs a) (unsigned_abs b)) d.0; left = d.0; right = d.1 })
  where
    by : (n : ℕ) → n ∣ unsigned_abs a → pos 0 <ℤ pos n
    by zero h = absurd (let i : pos 0 *ℤ int_div a (pos 0) ≡ a = multiple_of 0 a h in let j : pos 0 ≡ a = sym (zero-*ℤ (int_div a (pos 0))) ∙ i in omega (arith, ints, j, above))
    by (suc n) h = omega (arith, ints)

pub same_products : (l r g x y : ℤ) → x *ℤ g ≡ r → y *ℤ g ≡ l → l *ℤ x ≡ r *ℤ y
same_products l r g x y e f =
    ap (λ k. k *ℤ x) (sym f) ∙ solve wholes (y ∷ g ∷ x ∷ []) (product (product (var 0) (var 1)) (var 2)) (product (product (var 2) (var 1)) (var 0)) refl ∙ ap (λ k. k *ℤ y) e

pub no_rest : (z d m : ℤ) → d *ℤ m +ℤ z ≡ pos 0 → int_rem z d ≡ pos 0
no_rest z d m e = by z (mod-eq-zero_of_dvd (unsigned_abs d) (subst (λ n. unsigned_abs d ∣ n) size (dvd-mul_right (unsigned_abs d) (unsigned_abs m))))
  where
    size : unsigned_abs d * unsigned_abs m ≡ unsigned_abs z
    size = sym (unsigned_abs-mul d m) ∙ opposite (d *ℤ m) z e
      where
        opposite : (a b : ℤ) → a +ℤ b ≡ pos 0 → unsigned_abs a ≡ unsigned_abs b
        opposite a b h = let i : a ≡ neg_ℤ b = omega (arith, ints, h) in ap unsigned_abs i ∙ abs-neg b
          where
            abs-neg : (c : ℤ) → unsigned_abs (neg_ℤ c) ≡ unsigned_abs c
            abs-neg (pos zero) = refl
            abs-neg (pos (suc n)) = refl
            abs-neg (negsuc n) = refl

    by : (x : ℤ) → unsigned_abs x % unsigned_abs d ≡ 0 → int_rem x d ≡ pos 0
    by (pos a) h = ap pos h
    by (negsuc a) h = ap (λ n. neg_ℤ (pos n)) h

pub positive_product : (a b : ℤ) → pos 0 <ℤ a → pos 0 <ℤ b → pos 0 <ℤ (a *ℤ b)
positive_product (pos zero) b h i = absurd (omega (arith, ints, h))
positive_product (pos (suc a)) (pos zero) h i = absurd (omega (arith, ints, i))
positive_product (pos (suc a)) (pos (suc b)) h i = omega (arith, ints)
positive_product (pos (suc a)) (negsuc b) h i = absurd (omega (arith, ints, i))
positive_product (negsuc a) b h i = absurd (omega (arith, ints, h))

-- ---- no 0

pub lacks : (s : State) → ((m : ℤ) → s.step *ℤ m +ℤ s.start ≡ pos 0 → ⊥) → (x : Ratio) → 0 < x.denominator → SameNumber x (whole (pos 0)) → Has s x → ⊥
lacks s none x above same (m, e) =
    let n : x.numerator ≡ pos 0 = omega (arith, ints, same) in
    none m
    (times_cancel (s.step *ℤ m +ℤ s.start) (pos 0) x.denominator above
    (sym e ∙ ap (λ k. s.scale *ℤ k) n ∙ solve wholes (s.scale ∷ pos x.denominator ∷ []) (product (var 0) nothing) (product nothing (var 1)) refl))
