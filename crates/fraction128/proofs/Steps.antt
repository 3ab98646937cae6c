-- Of a sum and of a product: the first step that leaves the range, and the answer where none does.
use Rattle.std.proofs.Common.{◌≡◌, ℕ, ◌*◌, ◌/◌, ◌^◌, ◌<◌, ℤ, pos, ◌+ℤ◌, ◌-ℤ◌, ◌*ℤ◌, neg_ℤ, unsigned_abs, sym, ap, ap₂, ◌∙◌, subst, [], ◌∷◌, List, Ok, Err, None, Some}
use Rattle.std.specs.Int.RustNames.{int_div}
use Rattle.fraction128.specs.declared.range.Range.{Range}
use Rattle.fraction128.specs.Whole.{InRange, value_of, first_outside}
use Rattle.fraction128.specs.Gcd.{gcd_of}
use Rattle.fraction128.specs.Answer.{IsFound, IsAnswer}
use Rattle.fraction128.specs.Ratio.{IsFraction, IsSum, IsDifference, IsProduct}
use Rattle.fraction128.specs.declared.ratio.Ratio.{Ratio}
use Rattle.fraction128.specs.Listed.{times, plus, negation_of, sum_over, reduced_by, sum_of, sum_steps, product_of, product_steps}
use Rattle.fraction128.proofs.LowestTerms.{inside_next, outside_here, sum-is, product-is, neg-times}

pub found : (IsMeant : Ratio → Type 0) (steps : List Range) (r : Ratio) → IsFound IsMeant steps r → IsAnswer IsMeant steps (Ok r)
found IsMeant steps r h = record { ok = h; range = tt }

pub outside : (IsMeant : Ratio → Type 0) (steps : List Range) (e : Range) → first_outside steps ≡ Some e → IsAnswer IsMeant steps (Err e)
outside IsMeant steps e h = record { ok = tt; range = h }

abbrev one : Ratio → Ratio → Range
one x y = times x.numerator (pos (y.denominator / gcd_of x.denominator y.denominator))

abbrev two : Ratio → Ratio → Range
two x y = times y.numerator (pos (x.denominator / gcd_of x.denominator y.denominator))

abbrev three : Ratio → Ratio → Range
three x y = plus (value_of (one x y)) (value_of (two x y))

abbrev four : Ratio → Ratio → Range
four x y = times (pos (x.denominator / gcd_of x.denominator y.denominator)) (pos (y.denominator / reduced_by x y))

pub sum-outside_one : (x y : Ratio) (g : ℕ) (e : Range) → g ≡ gcd_of x.denominator y.denominator
    → e ≡ times x.numerator (pos (y.denominator / g)) → (InRange (x.numerator *ℤ pos (y.denominator / g)) → ⊥)
    → first_outside (sum_steps x y) ≡ Some e
unfolding sum_steps
sum-outside_one x y g e eg ee out =
    rw (ee, eg) (outside_here (one x y) (two x y ∷ three x y ∷ four x y ∷ []) (rw eg at out))

pub sum-outside_two : (x y : Ratio) (g : ℕ) (left : ℤ) (e : Range) → g ≡ gcd_of x.denominator y.denominator
    → (left ≡ x.numerator *ℤ pos (y.denominator / g)) × InRange left
    → e ≡ times y.numerator (pos (x.denominator / g)) → (InRange (y.numerator *ℤ pos (x.denominator / g)) → ⊥)
    → first_outside (sum_steps x y) ≡ Some e
unfolding sum_steps
sum-outside_two x y g left e eg l ee out =
    let first : InRange (x.numerator *ℤ pos (y.denominator / g)) = subst InRange l.0 l.1 in
    inside_next (one x y) (two x y ∷ three x y ∷ four x y ∷ []) (rw eg at first)
    ∙ rw (ee, eg) (outside_here (two x y) (three x y ∷ four x y ∷ []) (rw eg at out))

pub sum-outside_three : (x y : Ratio) (g : ℕ) (left right : ℤ) (e : Range) → g ≡ gcd_of x.denominator y.denominator
    → (left ≡ x.numerator *ℤ pos (y.denominator / g)) × InRange left → (right ≡ y.numerator *ℤ pos (x.denominator / g)) × InRange right
    → e ≡ plus left right → (InRange (left +ℤ right) → ⊥)
    → first_outside (sum_steps x y) ≡ Some e
unfolding sum_steps
sum-outside_three x y g left right e eg l r ee out =
    let first : InRange (x.numerator *ℤ pos (y.denominator / g)) = subst InRange l.0 l.1 in
    let second : InRange (y.numerator *ℤ pos (x.denominator / g)) = subst InRange r.0 r.1 in
    let left_is : left ≡ value_of (one x y) = rw eg at l.0 in
    let right_is : right ≡ value_of (two x y) = rw eg at r.0 in
    inside_next (one x y) (two x y ∷ three x y ∷ four x y ∷ []) (rw eg at first)
    ∙ inside_next (two x y) (three x y ∷ four x y ∷ []) (rw eg at second)
    ∙ outside_here (three x y) (four x y ∷ []) (rw (left_is, right_is) at out)
    ∙ ap Some (sym (ee ∙ ap₂ plus left_is right_is))

sum-before_four : (x y : Ratio) (g : ℕ) (left right s : ℤ) (h : ℕ) → g ≡ gcd_of x.denominator y.denominator
    → (left ≡ x.numerator *ℤ pos (y.denominator / g)) × InRange left → (right ≡ y.numerator *ℤ pos (x.denominator / g)) × InRange right
    → (s ≡ left +ℤ right) × InRange s → h ≡ gcd_of (unsigned_abs s) g
    → (first_outside (sum_steps x y) ≡ first_outside (four x y ∷ [])) × (s ≡ sum_over x y) × (h ≡ reduced_by x y)
unfolding sum_steps sum_over reduced_by
sum-before_four x y g left right s h eg l r t eh =
    let first : InRange (x.numerator *ℤ pos (y.denominator / g)) = subst InRange l.0 l.1 in
    let second : InRange (y.numerator *ℤ pos (x.denominator / g)) = subst InRange r.0 r.1 in
    let left_is : left ≡ value_of (one x y) = rw eg at l.0 in
    let right_is : right ≡ value_of (two x y) = rw eg at r.0 in
    let s_is : s ≡ sum_over x y = t.0 ∙ ap₂ ◌+ℤ◌ left_is right_is in (
      inside_next (one x y) (two x y ∷ three x y ∷ four x y ∷ []) (rw eg at first)
          ∙ inside_next (two x y) (three x y ∷ four x y ∷ []) (rw eg at second)
          ∙ inside_next (three x y) (four x y ∷ []) (subst InRange s_is t.1),
      s_is,
      eh ∙ ap₂ (λ z n. gcd_of (unsigned_abs z) n) s_is eg,
    )

pub sum-outside_four : (x y : Ratio) (g : ℕ) (left right s : ℤ) (h : ℕ) (e : Range) → g ≡ gcd_of x.denominator y.denominator
    → (left ≡ x.numerator *ℤ pos (y.denominator / g)) × InRange left → (right ≡ y.numerator *ℤ pos (x.denominator / g)) × InRange right
    → (s ≡ left +ℤ right) × InRange s → h ≡ gcd_of (unsigned_abs s) g
    → e ≡ times (pos (x.denominator / g)) (pos (y.denominator / h)) → (x.denominator / g * (y.denominator / h) < 2 ^ 127 → ⊥)
    → first_outside (sum_steps x y) ≡ Some e
sum-outside_four x y g left right s h e eg l r t eh ee out =
    let before = sum-before_four x y g left right s h eg l r t eh in
    before.0 ∙ outside_here (four x y) [] (rw (eg, before.2) at out)
    ∙ ap Some (sym (ee ∙ ap₂ (λ m n. times (pos (x.denominator / m)) (pos (y.denominator / n))) eg before.2))

pub sum-inside : (x y : Ratio) (g : ℕ) (left right s : ℤ) (h : ℕ) (n : ℤ) (d : ℕ) → g ≡ gcd_of x.denominator y.denominator
    → (left ≡ x.numerator *ℤ pos (y.denominator / g)) × InRange left → (right ≡ y.numerator *ℤ pos (x.denominator / g)) × InRange right
    → (s ≡ left +ℤ right) × InRange s → h ≡ gcd_of (unsigned_abs s) g
    → (d ≡ x.denominator / g * (y.denominator / h)) × (d < 2 ^ 127) → n ≡ int_div s (pos h)
    → (let r : Ratio = record { numerator = n; denominator = d } in r ≡ sum_of x y) × (first_outside (sum_steps x y) ≡ None)
unfolding sum_of
sum-inside x y g left right s h n d eg l r t eh ed en =
    let before = sum-before_four x y g left right s h eg l r t eh in
    let d_is : d ≡ (sum_of x y).denominator = ed.0 ∙ ap₂ (λ i j. x.denominator / i * (y.denominator / j)) eg before.2 in
    let n_is : n ≡ (sum_of x y).numerator = en ∙ ap₂ (λ z j. int_div z (pos j)) before.1 before.2 in (
      ap₂ (λ i j. let r : Ratio = record { numerator = i; denominator = j } in r) n_is d_is,
      before.0 ∙ inside_next (four x y) [] (subst (λ m. m < 2 ^ 127) d_is ed.1),
    )

abbrev over : Ratio → Ratio → Range
over x y = times (int_div x.numerator (pos (gcd_of (unsigned_abs x.numerator) y.denominator))) (int_div y.numerator (pos (gcd_of (unsigned_abs y.numerator) x.denominator)))

abbrev under : Ratio → Ratio → Range
under x y = times (pos (x.denominator / gcd_of (unsigned_abs y.numerator) x.denominator)) (pos (y.denominator / gcd_of (unsigned_abs x.numerator) y.denominator))

pub product-outside_over : (x y : Ratio) (u v : ℕ) (a c : ℤ) (e : Range) → u ≡ gcd_of (unsigned_abs x.numerator) y.denominator → v ≡ gcd_of (unsigned_abs y.numerator) x.denominator
    → a ≡ int_div x.numerator (pos u) → c ≡ int_div y.numerator (pos v) → e ≡ times a c → (InRange (a *ℤ c) → ⊥)
    → first_outside (product_steps x y) ≡ Some e
unfolding product_steps
product-outside_over x y u v a c e eu ev ea ec ee out =
    let a_is : a ≡ (over x y).a = ea ∙ ap (λ n. int_div x.numerator (pos n)) eu in
    let c_is : c ≡ (over x y).b = ec ∙ ap (λ n. int_div y.numerator (pos n)) ev in
    outside_here (over x y) (under x y ∷ []) (rw (a_is, c_is) at out) ∙ ap Some (sym (ee ∙ ap₂ times a_is c_is))

pub product-outside_under : (x y : Ratio) (u v : ℕ) (a c n : ℤ) (e : Range) → u ≡ gcd_of (unsigned_abs x.numerator) y.denominator → v ≡ gcd_of (unsigned_abs y.numerator) x.denominator
    → a ≡ int_div x.numerator (pos u) → c ≡ int_div y.numerator (pos v) → (n ≡ a *ℤ c) × InRange n
    → e ≡ times (pos (x.denominator / v)) (pos (y.denominator / u)) → (x.denominator / v * (y.denominator / u) < 2 ^ 127 → ⊥)
    → first_outside (product_steps x y) ≡ Some e
unfolding product_steps
product-outside_under x y u v a c n e eu ev ea ec en ee out =
    let a_is : a ≡ (over x y).a = ea ∙ ap (λ k. int_div x.numerator (pos k)) eu in
    let c_is : c ≡ (over x y).b = ec ∙ ap (λ k. int_div y.numerator (pos k)) ev in
    inside_next (over x y) (under x y ∷ []) (subst InRange (en.0 ∙ ap₂ ◌*ℤ◌ a_is c_is) en.1)
    ∙ outside_here (under x y) [] (rw (eu, ev) at out)
    ∙ ap Some (sym (ee ∙ ap₂ (λ i j. times (pos (x.denominator / i)) (pos (y.denominator / j))) ev eu))

pub product-inside : (x y : Ratio) (u v : ℕ) (a c n : ℤ) (d : ℕ) → u ≡ gcd_of (unsigned_abs x.numerator) y.denominator → v ≡ gcd_of (unsigned_abs y.numerator) x.denominator
    → a ≡ int_div x.numerator (pos u) → c ≡ int_div y.numerator (pos v) → (n ≡ a *ℤ c) × InRange n
    → (d ≡ x.denominator / v * (y.denominator / u)) × (d < 2 ^ 127)
    → (let r : Ratio = record { numerator = n; denominator = d } in r ≡ product_of x y) × (first_outside (product_steps x y) ≡ None)
unfolding product_steps product_of
product-inside x y u v a c n d eu ev ea ec en ed =
    let a_is : a ≡ (over x y).a = ea ∙ ap (λ k. int_div x.numerator (pos k)) eu in
    let c_is : c ≡ (over x y).b = ec ∙ ap (λ k. int_div y.numerator (pos k)) ev in
    let n_is : n ≡ (product_of x y).numerator = en.0 ∙ ap₂ ◌*ℤ◌ a_is c_is in
    let d_is : d ≡ (product_of x y).denominator = ed.0 ∙ ap₂ (λ i j. x.denominator / i * (y.denominator / j)) ev eu in (
      ap₂ (λ i j. let r : Ratio = record { numerator = i; denominator = j } in r) n_is d_is,
      inside_next (over x y) (under x y ∷ []) (subst InRange n_is en.1) ∙ inside_next (under x y) [] (subst (λ m. m < 2 ^ 127) d_is ed.1),
    )

pub sum-found : (x y r : Ratio) → IsFraction x → IsFraction y → (r ≡ sum_of x y) × (first_outside (sum_steps x y) ≡ None)
    → IsFound (IsSum x y) (sum_steps x y) r
sum-found x y r fx fy h =
    let found = sum-is x y fx fy h.1 in
    (subst (IsSum x y) (sym h.0) found.1, subst IsFraction (sym h.0) found.0, h.1)

pub product-found : (x y r : Ratio) → IsFraction x → IsFraction y → (r ≡ product_of x y) × (first_outside (product_steps x y) ≡ None)
    → IsFound (IsProduct x y) (product_steps x y) r
product-found x y r fx fy h =
    let found = product-is x y fx fy h.1 in
    (subst (IsProduct x y) (sym h.0) found.1, subst IsFraction (sym h.0) found.0, h.1)

pub difference-found : (x y z r : Ratio) → z ≡ negation_of y → IsFound (IsSum x z) (sum_steps x z) r
    → IsFound (IsDifference x y) (sum_steps x (negation_of y)) r
difference-found x y z r e h =
    let sum : IsSum x (negation_of y) r = subst (λ w. IsSum x w r) e h.0 in
    let minus : x.numerator *ℤ pos y.denominator +ℤ neg_ℤ y.numerator *ℤ pos x.denominator ≡ x.numerator *ℤ pos y.denominator -ℤ y.numerator *ℤ pos x.denominator =
    ap (λ n. x.numerator *ℤ pos y.denominator +ℤ n) (neg-times y.numerator (pos x.denominator)) in
    (sum ∙ ap (λ n. n *ℤ pos r.denominator) minus, h.1, subst (λ w. first_outside (sum_steps x w) ≡ None) e h.2)
