-- The tightest of the bounds that were set is one of them, and none of them is tighter.
use Rattle.std.proofs.Common.{◌≡◌, ℕ, zero, suc, ◌<◌, ◌⊎◌, inl, inr, Bool, true, false, cond, eqb, eqb-true, eq-eqb, ◌&&◌, List, [], ◌∷◌, length, ℤ, ◌≤ℤ◌, Option, Some, None, sym, ap, subst, ◌∙◌, refl, arith}
use Rattle.std.specs.Prelude.{int_lt}
use Rattle.std.proofs.lemmas.Int.{ints}
use Rattle.fraction128.specs.declared.ratio.Ratio.{Ratio}
use Rattle.fraction128.proofs.RationalOrder.{mul_mono}
use Rattle.fraction128.specs.declared.Side.{Side}
use Rattle.fraction128.specs.declared.Side.TheVariants.{Lower, Upper}
use Rattle.simplex.specs.declared.trail.Set.{Set}
use Rattle.simplex.specs.declared.trail.Held.{Held}
use Rattle.simplex.specs.Trail.{tightest, held_after, held_next, held_by, tighter, is_on, same_side, set_at}
use Rattle.sum_bounds.specs.Bounds.{MeetsSide, HoldsOn}

-- a bound of the list with this variable, side, number and tag
pub record IsAmong (bs : List Set) (i : ℕ) (s : Side) (h : Held) : Type 0 where
  pub place : ℕ
  pub in_list : place < length bs
  pub variable : (set_at bs place).variable ≡ i
  pub side : (set_at bs place).side ≡ s
  pub number : (set_at bs place).number ≡ h.number
  pub tag : (set_at bs place).tag ≡ h.tag

side_is : (s t : Side) → same_side s t ≡ true → s ≡ t
side_is Lower Lower e = refl
side_is Upper Upper e = refl
side_is Lower Upper e = absurd (let z : false ≡ true = e in cc)
side_is Upper Lower e = absurd (let z : false ≡ true = e in cc)

same_itself : (s : Side) → same_side s s ≡ true
same_itself Lower = refl
same_itself Upper = refl

on_left : (p q : Bool) → (p && q) ≡ true → p ≡ true
on_left true q e = refl
on_left false q e = e

on_right : (p q : Bool) → (p && q) ≡ true → q ≡ true
on_right true q e = e
on_right false q e = absurd (let z : false ≡ true = e in cc)

-- what stands next is what stood, or the bound itself
data Next (h : Option Held) (b : Set) (i : ℕ) (s : Side) : Type 0 where
  stays : held_next h b i s ≡ h → Next h b i s
  comes : held_next h b i s ≡ Some (held_by b) → b.variable ≡ i → b.side ≡ s → Next h b i s

next_is : (h : Option Held) (b : Set) (i : ℕ) (s : Side) → Next h b i s
next_is h b i s = by (is_on b i s) refl
  where
    chosen : (t : Side) (o : Option Held) → (tighter t o b ≡ o) ⊎ (tighter t o b ≡ Some (held_by b))
    chosen Lower (Some x) = pick (int_lt x.number b.number)
      where
        pick : (z : Bool) → (cond z (Some (held_by b)) (Some x) ≡ Some x) ⊎ (cond z (Some (held_by b)) (Some x) ≡ Some (held_by b))
        pick true = inr refl
        pick false = inl refl
    chosen Upper (Some x) = pick (int_lt b.number x.number)
      where
        pick : (z : Bool) → (cond z (Some (held_by b)) (Some x) ≡ Some x) ⊎ (cond z (Some (held_by b)) (Some x) ≡ Some (held_by b))
        pick true = inr refl
        pick false = inl refl
    chosen Lower None = inr refl
    chosen Upper None = inr refl

    by : (z : Bool) → is_on b i s ≡ z → Next h b i s
    by false e = stays (ap (λ z. cond z (tighter s h b) h) e)
    by true e = of (chosen s h)
      where
        is : held_next h b i s ≡ tighter s h b
        is = ap (λ z. cond z (tighter s h b) h) e

        of : (tighter s h b ≡ h) ⊎ (tighter s h b ≡ Some (held_by b)) → Next h b i s
        of (inl t) = stays (is ∙ t)
        of (inr t) = comes (is ∙ t) (eqb-true b.variable i (on_left (eqb b.variable i) (same_side b.side s) e)) (side_is b.side s (on_right (eqb b.variable i) (same_side b.side s) e))

further : (bs : List Set) (b : Set) (i : ℕ) (s : Side) (h : Held) → IsAmong bs i s h → IsAmong (b ∷ bs) i s h
further bs b i s h a = record { place = suc a.place; in_list = let l = a.in_list in omega (arith, l); variable = a.variable; side = a.side; number = a.number; tag = a.tag }

some_is : (a b : Held) → Some a ≡ Some b → a ≡ b
some_is a b e = cc

after_from : (bs : List Set) (o : Option Held) (i : ℕ) (s : Side) (h : Held) → held_after o bs i s ≡ Some h → (o ≡ Some h) ⊎ IsAmong bs i s h
after_from [] o i s h e = inl e
after_from (b ∷ bs) o i s h e = by (next_is o b i s) (after_from bs (held_next o b i s) i s h e)
  where
    by : Next o b i s → (held_next o b i s ≡ Some h) ⊎ IsAmong bs i s h → (o ≡ Some h) ⊎ IsAmong (b ∷ bs) i s h
    by n (inr a) = inr (further bs b i s h a)
    by (stays t) (inl f) = inl (sym t ∙ f)
    by (comes t v w) (inl f) =
        let is : held_by b ≡ h = some_is (held_by b) h (sym t ∙ f) in
        inr (record { place = zero; in_list = omega arith; variable = v; side = w; number = ap (λ (x : Held). x.number) is; tag = ap (λ (x : Held). x.tag) is })

pub tightest_among : (bs : List Set) (i : ℕ) (s : Side) (h : Held) → tightest bs i s ≡ Some h → IsAmong bs i s h
tightest_among bs i s h e = by (after_from bs None i s h e)
  where
    by : (None ≡ Some h) ⊎ IsAmong bs i s h → IsAmong bs i s h
    by (inl f) = absurd (cc)
    by (inr a) = a

-- ---- at least as tight

pub AtLeast : Side → ℤ → ℤ → Type 0
AtLeast Lower a b = b ≤ℤ a
AtLeast Upper a b = a ≤ℤ b

at_least_itself : (s : Side) (a : ℤ) → AtLeast s a a
unfolding AtLeast
at_least_itself Lower a = omega (arith, ints)
at_least_itself Upper a = omega (arith, ints)

at_least_through : (s : Side) (a b c : ℤ) → AtLeast s a b → AtLeast s b c → AtLeast s a c
unfolding AtLeast
at_least_through Lower a b c p q = omega (arith, ints, p, q)
at_least_through Upper a b c p q = omega (arith, ints, p, q)

Stands : Side → Option Held → ℤ → Type 0
Stands s o k = (h : Held) × (o ≡ Some h) × AtLeast s h.number k

tighter_stands : (s : Side) (o : Option Held) (b : Set) → Stands s (tighter s o b) b.number
unfolding Stands AtLeast
tighter_stands Lower (Some x) b = by (int_lt x.number b.number) refl
  where
    by : (z : Bool) → int_lt x.number b.number ≡ z → Stands Lower (cond z (Some (held_by b)) (Some x)) b.number
    by true e = (held_by b, refl, omega (arith, ints))
    by false e = (x, refl, grind (arith, ints))
tighter_stands Upper (Some x) b = by (int_lt b.number x.number) refl
  where
    by : (z : Bool) → int_lt b.number x.number ≡ z → Stands Upper (cond z (Some (held_by b)) (Some x)) b.number
    by true e = (held_by b, refl, omega (arith, ints))
    by false e = (x, refl, grind (arith, ints))
tighter_stands Lower None b = (held_by b, refl, omega (arith, ints))
tighter_stands Upper None b = (held_by b, refl, omega (arith, ints))

tighter_keeps : (s : Side) (x : Held) (b : Set) → Stands s (tighter s (Some x) b) x.number
unfolding Stands AtLeast
tighter_keeps Lower x b = by (int_lt x.number b.number) refl
  where
    by : (z : Bool) → int_lt x.number b.number ≡ z → Stands Lower (cond z (Some (held_by b)) (Some x)) x.number
    by true e = (held_by b, refl, grind (arith, ints))
    by false e = (x, refl, omega (arith, ints))
tighter_keeps Upper x b = by (int_lt b.number x.number) refl
  where
    by : (z : Bool) → int_lt b.number x.number ≡ z → Stands Upper (cond z (Some (held_by b)) (Some x)) x.number
    by true e = (held_by b, refl, grind (arith, ints))
    by false e = (x, refl, omega (arith, ints))

next_keeps : (s : Side) (o : Option Held) (b : Set) (i : ℕ) (k : ℤ) → Stands s o k → Stands s (held_next o b i s) k
unfolding Stands
next_keeps s o b i k (x, e, t) = by (is_on b i s)
  where
    by : (z : Bool) → Stands s (cond z (tighter s o b) o) k
    by false = (x, e, t)
    by true = subst (λ (y : Option Held). Stands s (tighter s y b) k) (sym e) (let r = tighter_keeps s x b in (r.0, r.1, at_least_through s (r.0).number x.number k r.2 t))

after_keeps : (s : Side) (bs : List Set) (o : Option Held) (i : ℕ) (k : ℤ) → Stands s o k → Stands s (held_after o bs i s) k
after_keeps s [] o i k h = h
after_keeps s (b ∷ bs) o i k h = after_keeps s bs (held_next o b i s) i k (next_keeps s o b i k h)

next_has : (o : Option Held) (b : Set) → Stands b.side (held_next o b b.variable b.side) b.number
next_has o b = subst (λ z. Stands b.side (cond z (tighter b.side o b) o) b.number) (sym on_it) (tighter_stands b.side o b)
  where
    on_it : is_on b b.variable b.side ≡ true
    on_it = ap (λ z. z && same_side b.side b.side) (eq-eqb b.variable b.variable refl) ∙ same_itself b.side

after_has : (bs : List Set) (o : Option Held) (k : ℕ) → k < length bs → Stands (set_at bs k).side (held_after o bs (set_at bs k).variable (set_at bs k).side) (set_at bs k).number
after_has [] o k lt = absurd (omega (arith, lt))
after_has (b ∷ bs) o zero lt = after_keeps b.side bs (held_next o b b.variable b.side) b.variable b.number (next_has o b)
after_has (b ∷ bs) o (suc k) lt = after_has bs (held_next o b (set_at bs k).variable (set_at bs k).side) k (omega (arith, lt))

-- the tightest bound, at least as tight as one of the list
pub record IsTighter (bs : List Set) (b : Set) : Type 0 where
  pub held : Held
  pub is : tightest bs b.variable b.side ≡ Some held
  pub tight : AtLeast b.side held.number b.number

pub tightest_least : (bs : List Set) (k : ℕ) → k < length bs → IsTighter bs (set_at bs k)
unfolding Stands
tightest_least bs k lt = let r = after_has bs None k lt in record { held = r.0; is = r.1; tight = r.2 }

-- what meets the tighter bound meets the other one
pub meets_looser : (s : Side) (a b : ℤ) (x : Ratio) → AtLeast s a b → MeetsSide s a x → MeetsSide s b x
unfolding AtLeast
meets_looser Lower a b x t h = let m = mul_mono b a x.denominator t in grind (arith, ints, m)
meets_looser Upper a b x t h = let m = mul_mono a b x.denominator t in grind (arith, ints, m)

pub holds_on : (s : Side) (a b : ℤ) → AtLeast s a b → HoldsOn s b (Some a)
unfolding AtLeast
holds_on Lower a b t = t
holds_on Upper a b t = t
