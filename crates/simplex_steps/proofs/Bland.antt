-- A variable that left the basis comes back only with a greater one.
use Rattle.std.proofs.Common.{unsigned_abs, ◌*ℤ◌, ◌≡◌, ℤ, ◌<◌, ◌⊎◌, inl, inr, pos, sym, ap, ap₂, ◌∙◌, subst, refl, arith, [], ◌∷◌, Bool, true, false, cond, ◌&&◌, ◌||◌, eq-eqb, Option, Some, None}
use Rattle.std.specs.Prelude.{int_lt}
use Rattle.std.proofs.lemmas.Int.{ints}
use Rattle.fraction128.specs.declared.ratio.Ratio.{Ratio}
use Rattle.fraction128.specs.Number.{whole, is_less, is_positive, is_negative}
use Rattle.fraction128.specs.Listed.{negation_of}
use Rattle.fraction128.proofs.RingEquations.{var, sum, product, minus, nothing, solve}
use Rattle.fraction128.proofs.RationalRing.{Rational, number, number_neg, number_back, rational_sum, rational_product, rational_negation, rational_zero, rational_zero-is, rationals}
use Rattle.fraction128.proofs.RationalOrder.{NonPos, nonpos_plus, nonpos_none, nonpos_times, less_or_same, difference_nonpos, times_one, none_times}
use Rattle.fraction128.proofs.ExactSteps.{none_number}
use Rattle.fraction128.specs.declared.Column.{Column}
use Rattle.fraction128.specs.Grid.{is_below, is_above, can_rise, can_fall, missed, helps}

-- ---- signs

-- a fraction of the number 0
pub zero_back : (x : Ratio) → 0 < x.denominator → number x ≡ rational_zero → x.numerator ≡ pos 0
zero_back x f e = sym (times_one x.numerator) ∙ number_back x (whole (pos 0)) f (omega arith) (e ∙ rational_zero-is) ∙ none_times x.denominator

-- a coefficient whose sign is that of a number of which a side isn't positive
pub times_positive : (a : Ratio) (d : Rational) → 0 < a.denominator → is_positive a ≡ true → NonPos d → NonPos (rational_product (number a) d)
times_positive a d f s h = nonpos_times a d f (grind (arith, ints)) h

pub times_negative : (a : Ratio) (d : Rational) → 0 < a.denominator → is_negative a ≡ true → NonPos (rational_negation d) → NonPos (rational_product (number a) d)
times_negative a d f s h =
    subst NonPos
    (ap (λ m. rational_product m (rational_negation d)) (number_neg a f) ∙ solve rationals (number a ∷ d ∷ []) (product (minus (var 0)) (minus (var 1))) (product (var 0) (var 1)) refl)
    (nonpos_times (negation_of a) (rational_negation d) f (grind (arith, ints)) h)

pub times_zero : (a : Ratio) (d : Rational) → 0 < a.denominator → is_positive a ≡ false → is_negative a ≡ false → NonPos (rational_product (number a) d)
times_zero a d f p n =
    let z : a.numerator ≡ pos 0 = grind (arith, ints) in
    subst NonPos (sym (ap (λ m. rational_product m d) (none a f z) ∙ solve rationals (d ∷ []) (product nothing (var 0)) nothing refl)) nonpos_none
  where
    none : (x : Ratio) → 0 < x.denominator → x.numerator ≡ pos 0 → number x ≡ rational_zero
    none x fx z = none_number x fx (eq-eqb (unsigned_abs x.numerator) 0 (ap unsigned_abs z))

-- a product of a sum's terms that isn't positive, by the sign of the coefficient
pub by_sign : (a : Ratio) (d : Rational) → 0 < a.denominator → (is_positive a ≡ true → NonPos d) → (is_negative a ≡ true → NonPos (rational_negation d)) → NonPos (rational_product (number a) d)
by_sign a d f up down = by_test (is_positive a) refl (is_negative a) refl
  where
    by_test : (s : Bool) → is_positive a ≡ s → (t : Bool) → is_negative a ≡ t → NonPos (rational_product (number a) d)
    by_test true e t g = times_positive a d f e (up e)
    by_test false e true g = times_negative a d f g (down g)
    by_test false e false g = times_zero a d f e g

-- ---- one column before and after

-- y is at most x, as numbers
abbrev pub AtMost : Ratio → Ratio → Type 0
AtMost x y = is_less y x ≡ false

pub at_most_nonpos : (x y : Ratio) → 0 < x.denominator → 0 < y.denominator → AtMost x y → NonPos (rational_sum (number x) (rational_negation (number y)))
at_most_nonpos x y fx fy h = less_or_same x y fx fy h

pub at_most_through : (x y : Ratio) (k : ℤ) → 0 < x.denominator → 0 < y.denominator → AtMost x (whole k) → AtMost (whole k) y → AtMost x y
at_most_through x y k fx fy a b =
    difference_nonpos x y fx fy
    (subst NonPos
    (solve rationals (number x ∷ number (whole k) ∷ number y ∷ []) (sum (sum (var 0) (minus (var 1))) (sum (var 1) (minus (var 2)))) (sum (var 0) (minus (var 2))) refl)
    (nonpos_plus (rational_sum (number x) (rational_negation (number (whole k)))) (rational_sum (number (whole k)) (rational_negation (number y)))
    (less_or_same x (whole k) fx (omega arith) a) (less_or_same (whole k) y (omega arith) fy b)))

pub less_is_most : (x y : Ratio) → is_less x y ≡ true → AtMost x y
less_is_most x y h = grind (arith, ints)

-- a value within its bounds
within_lower : (c : Column) (k : ℤ) → missed c ≡ None → c.lower ≡ Some k → AtMost (whole k) c.value
within_lower c k m e = by_test (is_less c.value (whole k)) refl
  where
    by_test : (z : Bool) → is_less c.value (whole k) ≡ z → z ≡ false
    by_test false w = refl
    by_test true w =
        let below : is_below c.value c.lower ≡ true = ap (is_below c.value) e ∙ w in
        let some : c.lower ≡ None = ap (λ z. cond z c.lower (cond (is_above c.value c.upper) c.upper None)) (sym below) ∙ m in
        let bad : Some k ≡ None = sym e ∙ some in absurd (cc)

within_upper : (c : Column) (k : ℤ) → missed c ≡ None → c.upper ≡ Some k → AtMost c.value (whole k)
within_upper c k m e = by_test (is_less (whole k) c.value) refl (is_below c.value c.lower) refl
  where
    none_or : (z : Bool) → is_below c.value c.lower ≡ z → (o : Option ℤ) → c.lower ≡ o → is_below c.value o ≡ z
    none_or z w o q = ap (is_below c.value) (sym q) ∙ w

    by_lower : (o : Option ℤ) → is_below c.value o ≡ true → o ≡ None → ⊥
    by_lower None w q = absurd (cc)
    by_lower (Some l) w q = absurd (cc)

    by_test : (z : Bool) → is_less (whole k) c.value ≡ z → (y : Bool) → is_below c.value c.lower ≡ y → z ≡ false
    by_test false w y v = refl
    by_test true w true v = absurd (by_lower c.lower v (ap (λ z. cond z c.lower (cond (is_above c.value c.upper) c.upper None)) (sym v) ∙ m))
    by_test true w false v =
        let above : is_above c.value c.upper ≡ true = ap (is_above c.value) e ∙ w in
        let some : c.upper ≡ None = ap₂ (λ y z. cond y c.lower (cond z c.upper None)) (sym v) (sym above) ∙ m in
        let bad : Some k ≡ None = sym e ∙ some in absurd (cc)

-- a value that can't rise stands at or above its upper bound, and any value that is within the bounds is at most it
cant_rise : (c d : Column) → 0 < c.value.denominator → 0 < d.value.denominator → c.upper ≡ d.upper → missed c ≡ None → can_rise d ≡ false → AtMost c.value d.value
cant_rise c d fc fd same m h = by_bound (full d.lower d.upper d.value h)
  where
    full : (l u : Option ℤ) (x : Ratio) → can_rise (record { sum = d.sum; lower = l; upper = u; value = x }) ≡ false → (k : ℤ) × (u ≡ Some k) × (is_less x (whole k) ≡ false)
    full l (Some k) x q = (k, refl, q)
    full l None x q = absurd (cc)

    by_bound : (k : ℤ) × (d.upper ≡ Some k) × (is_less d.value (whole k) ≡ false) → AtMost c.value d.value
    by_bound f = at_most_through c.value d.value f.0 fc fd (within_upper c f.0 m (same ∙ f.1)) f.2

cant_fall : (c d : Column) → 0 < c.value.denominator → 0 < d.value.denominator → c.lower ≡ d.lower → missed c ≡ None → can_fall d ≡ false → AtMost d.value c.value
cant_fall c d fc fd same m h = by_bound (full d.lower d.upper d.value h)
  where
    full : (l u : Option ℤ) (x : Ratio) → can_fall (record { sum = d.sum; lower = l; upper = u; value = x }) ≡ false → (k : ℤ) × (l ≡ Some k) × (is_less (whole k) x ≡ false)
    full (Some k) u x q = (k, refl, q)
    full None u x q = absurd (cc)

    by_bound : (k : ℤ) × (d.lower ≡ Some k) × (is_less (whole k) d.value ≡ false) → AtMost d.value c.value
    by_bound f = at_most_through d.value c.value f.0 fd fc f.2 (within_lower c f.0 m (same ∙ f.1))

-- what doesn't help, by sides
pub first_false : (m n : Bool) → (m || n) ≡ false → m ≡ false
first_false true n h = absurd (cc)
first_false false n h = refl

pub second_false : (m n : Bool) → (m || n) ≡ false → n ≡ false
second_false true n h = absurd (cc)
second_false false n h = h

pub right_false : (m n : Bool) → m ≡ true → (m && n) ≡ false → n ≡ false
right_false true n e h = h
right_false false n e h = absurd (cc)

-- the difference of a variable that is within its bounds in c and doesn't help in d
pub idle_term : (rises : Bool) (a : Ratio) (c d : Column) → 0 < a.denominator → 0 < c.value.denominator → 0 < d.value.denominator → c.lower ≡ d.lower → c.upper ≡ d.upper → missed c ≡ None → helps rises a d ≡ false
    → NonPos (rational_product (number a) (cond rises (rational_sum (number c.value) (rational_negation (number d.value))) (rational_sum (number d.value) (rational_negation (number c.value)))))
idle_term true a c d fa fc fd lower upper m h =
    by_sign a (rational_sum (number c.value) (rational_negation (number d.value))) fa
    (λ p. less_or_same c.value d.value fc fd (cant_rise c d fc fd upper m (right_false (is_positive a) (can_rise d) p (first_false (is_positive a && can_rise d) (is_negative a && can_fall d) h))))
    (λ n. subst NonPos (solve rationals (number d.value ∷ number c.value ∷ []) (sum (var 0) (minus (var 1))) (minus (sum (var 1) (minus (var 0)))) refl)
    (less_or_same d.value c.value fd fc (cant_fall c d fc fd lower m (right_false (is_negative a) (can_fall d) n (second_false (is_positive a && can_rise d) (is_negative a && can_fall d) h)))))
idle_term false a c d fa fc fd lower upper m h =
    by_sign a (rational_sum (number d.value) (rational_negation (number c.value))) fa
    (λ p. less_or_same d.value c.value fd fc (cant_fall c d fc fd lower m (right_false (is_positive a) (can_fall d) p (first_false (is_positive a && can_fall d) (is_negative a && can_rise d) h))))
    (λ n. subst NonPos (solve rationals (number c.value ∷ number d.value ∷ []) (sum (var 0) (minus (var 1))) (minus (sum (var 1) (minus (var 0)))) refl)
    (less_or_same c.value d.value fc fd (cant_rise c d fc fd upper m (right_false (is_negative a) (can_rise d) n (second_false (is_positive a && can_fall d) (is_negative a && can_rise d) h)))))

-- ---- the variable that left and comes back

pick_first : (p r n f : Bool) → ((p && r) || (n && f)) ≡ true → f ≡ false → p ≡ true
pick_first true r n f h e = refl
pick_first false r true f h e = let z : true ≡ false = sym h ∙ e in absurd (cc)
pick_first false r false f h e = absurd (cc)

pick_second : (p r n f : Bool) → ((p && r) || (n && f)) ≡ true → r ≡ false → n ≡ true
pick_second p r true f h e = refl
pick_second true true false f h e = absurd (cc)
pick_second true false false f h e = absurd (cc)
pick_second false r false f h e = absurd (cc)

pub missed_cases : (c : Column) (k : ℤ) → missed c ≡ Some k → ((c.lower ≡ Some k) × (is_less c.value (whole k) ≡ true)) ⊎ ((c.upper ≡ Some k) × (is_less (whole k) c.value ≡ true))
missed_cases c k m = by_bounds c.lower c.upper c.value m
  where
    by_upper : (u : Option ℤ) (x : Ratio) (z : Bool) → is_above x u ≡ z → cond z u None ≡ Some k → (u ≡ Some k) × (is_less (whole k) x ≡ true)
    by_upper None x z e q = absurd (none z q)
      where
        none : (w : Bool) → cond w (let o : Option ℤ = None in o) None ≡ Some k → ⊥
        none true h = absurd (cc)
        none false h = absurd (cc)
    by_upper (Some u) x true e q = let same : u ≡ k = cc in (q, ap (λ n. is_less (whole n) x) (sym same) ∙ e)
    by_upper (Some u) x false e q = absurd (cc)

    by_lower : (l u : Option ℤ) (x : Ratio) (z : Bool) → is_below x l ≡ z → cond z l (cond (is_above x u) u None) ≡ Some k → ((l ≡ Some k) × (is_less x (whole k) ≡ true)) ⊎ ((u ≡ Some k) × (is_less (whole k) x ≡ true))
    by_lower None u x true e q = absurd (cc)
    by_lower (Some l) u x true e q = let same : l ≡ k = cc in inl (q, ap (λ n. is_less x (whole n)) (sym same) ∙ e)
    by_lower l u x false e q = inr (by_upper u x (is_above x u) refl q)

    by_bounds : (l u : Option ℤ) (x : Ratio) → missed (record { sum = c.sum; lower = l; upper = u; value = x }) ≡ Some k → ((l ≡ Some k) × (is_less x (whole k) ≡ true)) ⊎ ((u ≡ Some k) × (is_less (whole k) x ≡ true))
    by_bounds l u x q = by_lower l u x (is_below x l) refl q

int_same : (a : ℤ) → int_lt (a) a ≡ false
int_same a = grind (arith, ints)

whole_same : (k : ℤ) → is_less (whole k) (whole k) ≡ false
whole_same k = int_same (k *ℤ pos 1)

stands_lower : (d : Column) (k : ℤ) → d.lower ≡ Some k → d.value ≡ whole k → can_fall d ≡ false
stands_lower d k e v = at_value d.lower d.upper d.value e v
  where
    at_value : (l u : Option ℤ) (x : Ratio) → l ≡ Some k → x ≡ whole k → can_fall (record { sum = d.sum; lower = l; upper = u; value = x }) ≡ false
    at_value None u x p q = absurd (cc)
    at_value (Some l) u x p q = let same : l ≡ k = cc in ap₂ (λ n y. is_less (whole n) y) same q ∙ whole_same k

stands_upper : (d : Column) (k : ℤ) → d.upper ≡ Some k → d.value ≡ whole k → can_rise d ≡ false
stands_upper d k e v = at_value d.lower d.upper d.value e v
  where
    at_value : (l u : Option ℤ) (x : Ratio) → u ≡ Some k → x ≡ whole k → can_rise (record { sum = d.sum; lower = l; upper = u; value = x }) ≡ false
    at_value l None x p q = absurd (cc)
    at_value l (Some u) x p q = let same : u ≡ k = cc in ap₂ (λ n y. is_less y (whole n)) same q ∙ whole_same k

turned : (x y : Ratio) → NonPos (rational_sum (number x) (rational_negation (number y))) → NonPos (rational_negation (rational_sum (number y) (rational_negation (number x))))
turned x y h = subst NonPos (solve rationals (number x ∷ number y ∷ []) (sum (var 0) (minus (var 1))) (minus (sum (var 1) (minus (var 0)))) refl) h

-- the difference of a variable that was outside its bound k in c, stands at k in d and helps there
pub coming_term : (rises : Bool) (a : Ratio) (c d : Column) (k : ℤ) → 0 < a.denominator → 0 < c.value.denominator → 0 < d.value.denominator → c.lower ≡ d.lower → c.upper ≡ d.upper → missed c ≡ Some k → d.value ≡ whole k → helps rises a d ≡ true
    → NonPos (rational_product (number a) (cond rises (rational_sum (number c.value) (rational_negation (number d.value))) (rational_sum (number d.value) (rational_negation (number c.value)))))
coming_term rises a c d k fa fc fd lower upper m v h = by_side rises h (missed_cases c k m)
  where
    up : is_less c.value (whole k) ≡ true → NonPos (rational_sum (number c.value) (rational_negation (number d.value)))
    up e = less_or_same c.value d.value fc fd (subst (λ y. AtMost c.value y) (sym v) (less_is_most c.value (whole k) e))

    down : is_less (whole k) c.value ≡ true → NonPos (rational_sum (number d.value) (rational_negation (number c.value)))
    down e = less_or_same d.value c.value fd fc (subst (λ y. AtMost y c.value) (sym v) (less_is_most (whole k) c.value e))

    by_side : (r : Bool) → helps r a d ≡ true → ((c.lower ≡ Some k) × (is_less c.value (whole k) ≡ true)) ⊎ ((c.upper ≡ Some k) × (is_less (whole k) c.value ≡ true))
        → NonPos (rational_product (number a) (cond r (rational_sum (number c.value) (rational_negation (number d.value))) (rational_sum (number d.value) (rational_negation (number c.value)))))
    by_side true q (inl s) =
        times_positive a (rational_sum (number c.value) (rational_negation (number d.value))) fa
        (pick_first (is_positive a) (can_rise d) (is_negative a) (can_fall d) q (stands_lower d k (sym lower ∙ s.0) v)) (up s.1)
    by_side false q (inl s) =
        times_negative a (rational_sum (number d.value) (rational_negation (number c.value))) fa
        (pick_second (is_positive a) (can_fall d) (is_negative a) (can_rise d) q (stands_lower d k (sym lower ∙ s.0) v)) (turned c.value d.value (up s.1))
    by_side true q (inr s) =
        times_negative a (rational_sum (number c.value) (rational_negation (number d.value))) fa
        (pick_second (is_positive a) (can_rise d) (is_negative a) (can_fall d) q (stands_upper d k (sym upper ∙ s.0) v)) (turned d.value c.value (down s.1))
    by_side false q (inr s) =
        times_positive a (rational_sum (number d.value) (rational_negation (number c.value))) fa
        (pick_first (is_positive a) (can_fall d) (is_negative a) (can_rise d) q (stands_upper d k (sym upper ∙ s.0) v)) (down s.1)

-- ---- the variable that leaves

trans_most : (x y z : Ratio) → 0 < x.denominator → 0 < y.denominator → 0 < z.denominator → AtMost x y → AtMost y z → AtMost x z
trans_most x y z fx fy fz a b =
    difference_nonpos x z fx fz
    (subst NonPos
    (solve rationals (number x ∷ number y ∷ number z ∷ []) (sum (sum (var 0) (minus (var 1))) (sum (var 1) (minus (var 2)))) (sum (var 0) (minus (var 2))) refl)
    (nonpos_plus (rational_sum (number x) (rational_negation (number y))) (rational_sum (number y) (rational_negation (number z))) (less_or_same x y fx fy a) (less_or_same y z fy fz b)))

both_ways : (x y : Ratio) → is_less x y ≡ true → is_less y x ≡ true → ⊥
both_ways x y a b = let z : is_less y x ≡ false = less_is_most x y a in let w : true ≡ false = sym b ∙ z in absurd (cc)

-- a variable that was within its bounds in c can't be outside of one in d on the side to which it is to move, where its value came no nearer to it
pub cant_leave : (rises : Bool) (c d : Column) (k : ℤ) → 0 < c.value.denominator → 0 < d.value.denominator → c.lower ≡ d.lower → c.upper ≡ d.upper → missed c ≡ None → missed d ≡ Some k → is_less d.value (whole k) ≡ rises
    → NonPos (cond rises (rational_sum (number c.value) (rational_negation (number d.value))) (rational_sum (number d.value) (rational_negation (number c.value)))) → ⊥
cant_leave true c d k fc fd lower upper m m' r h = by_side (missed_cases d k m')
  where
    by_side : ((d.lower ≡ Some k) × (is_less d.value (whole k) ≡ true)) ⊎ ((d.upper ≡ Some k) × (is_less (whole k) d.value ≡ true)) → ⊥
    by_side (inl s) =
        let at : AtMost (whole k) d.value = trans_most (whole k) c.value d.value (omega arith) fc fd (within_lower c k m (lower ∙ s.0)) (difference_nonpos c.value d.value fc fd h) in
        let w : true ≡ false = sym s.1 ∙ at in absurd (cc)
    by_side (inr s) = both_ways d.value (whole k) r s.1
cant_leave false c d k fc fd lower upper m m' r h = by_side (missed_cases d k m')
  where
    by_side : ((d.lower ≡ Some k) × (is_less d.value (whole k) ≡ true)) ⊎ ((d.upper ≡ Some k) × (is_less (whole k) d.value ≡ true)) → ⊥
    by_side (inl s) = let w : true ≡ false = sym s.1 ∙ r in absurd (cc)
    by_side (inr s) =
        let at : AtMost d.value (whole k) = trans_most d.value c.value (whole k) fd fc (omega arith) (difference_nonpos d.value c.value fd fc h) (within_upper c k m (upper ∙ s.0)) in
        let w : true ≡ false = sym s.1 ∙ at in absurd (cc)
