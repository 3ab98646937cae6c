-- The rational numbers: fractions in lowest terms, without bound. They are a ring, and what unreduced fractions say carries over.
use Rattle.std.proofs.Common.{◌≡◌, ℕ, zero, suc, ◌*◌, ◌/◌, ◌<◌, ℤ, pos, ◌+ℤ◌, ◌*ℤ◌, neg_ℤ, unsigned_abs, sym, ap, ap₂, ◌∙◌, subst, arith, refl, List, [], ◌∷◌}
use Rattle.std.specs.Int.{IsGcd, ◌∣◌}
use Rattle.std.specs.Int.RustNames.{int_div}
use Rattle.std.proofs.Math.Nat.{mul_comm, mul-div_cancel', pos_of_dvd_of_pos, dvd-mul_left, ℕ_set}
use Rattle.std.proofs.Math.Bridge.{le_prop}
use Rattle.std.proofs.lemmas.Nat.Gcd.{dvd_antisymm}
use mathlib.Core.HLevel.{Σ_prop_path, ×_prop}
use Rattle.fraction128.specs.declared.ratio.Ratio.{Ratio}
use Rattle.fraction128.specs.Gcd.{gcd_of}
use Rattle.fraction128.specs.Listed.{negation_of}
use Rattle.fraction128.proofs.Divisors.{IsGcd-gcd_of, gcd-Apart, Apart-gcd, Apart-swap, Apart-quotients, dvd_of_dvd-times}
use Rattle.fraction128.proofs.Integers.{abs-times, quot-times, times-pos}
use Rattle.fraction128.proofs.LowestTerms.{pos_times}
use Rattle.fraction128.proofs.Comparisons.{times_cancel}
use Rattle.fraction128.specs.Ratio.{IsFraction, Equals}
use Rattle.fraction128.specs.Number.{whole, SameNumber, unreduced_sum, unreduced_product}
use Rattle.fraction128.proofs.FieldEquations.{Commutes, Regroups, IsNeutral, sum_commutes, sum_regroups, sum_with_zero, sum_with_negation, product_commutes, product_regroups, product_with_one, product_over_sum}
use Rattle.fraction128.proofs.RingEquations.{Ring, var, sum, product, minus, solve}
use Rattle.fraction128.proofs.WholeNumbers.{wholes}

abbrev pub IsLowest : Ratio → Type 0
IsLowest x = (0 < x.denominator) × (gcd_of (unsigned_abs x.numerator) x.denominator ≡ 1)

lowest_prop : (x : Ratio) → IsProp (IsLowest x)
lowest_prop x = ×_prop (le_prop {n = 1} {m = x.denominator}) (ℕ_set (gcd_of (unsigned_abs x.numerator) x.denominator) 1)

abbrev pub Rational : Type 0
Rational = (x : Ratio) × IsLowest x

pub rational_eq : (p q : Rational) → p.0 ≡ q.0 → p ≡ q
rational_eq p q e = Σ_prop_path (λ x. lowest_prop x) {u = p} {v = q} e

-- ---- fractions in lowest terms

pub lowest_unique : (x y : Ratio) → IsLowest x → IsLowest y → SameNumber x y → x ≡ y
lowest_unique x y fx fy e =
    let sizes : unsigned_abs x.numerator * y.denominator ≡ unsigned_abs y.numerator * x.denominator =
    sym (abs-times x.numerator y.denominator) ∙ ap unsigned_abs e ∙ abs-times y.numerator x.denominator in
    let x_part : x.denominator ∣ y.denominator =
    dvd_of_dvd-times x.denominator (unsigned_abs x.numerator) y.denominator
    (Apart-swap (unsigned_abs x.numerator) x.denominator (Apart-gcd (unsigned_abs x.numerator) x.denominator fx.1))
    (subst (λ n. x.denominator ∣ n) (sym sizes) (dvd-mul_left x.denominator (unsigned_abs y.numerator))) in
    let y_part : y.denominator ∣ x.denominator =
    dvd_of_dvd-times y.denominator (unsigned_abs y.numerator) x.denominator
    (Apart-swap (unsigned_abs y.numerator) y.denominator (Apart-gcd (unsigned_abs y.numerator) y.denominator fy.1))
    (subst (λ n. y.denominator ∣ n) sizes (dvd-mul_left y.denominator (unsigned_abs x.numerator))) in
    let below : x.denominator ≡ y.denominator = dvd_antisymm x_part y_part in
    let over : x.numerator ≡ y.numerator =
    times_cancel x.numerator y.numerator y.denominator fy.0 (e ∙ ap (λ n. y.numerator *ℤ pos n) below) in
    ap₂ (λ i j. let w : Ratio = record { numerator = i; denominator = j } in w) over below

-- the same of fractions of the range
pub lowest-unique : (x y : Ratio) → IsFraction x → IsFraction y → Equals x y.numerator y.denominator → x ≡ y
lowest-unique x y fx fy e = lowest_unique x y (fx.positive, fx.lowest) (fy.positive, fy.lowest) e

pos_right : (m n : ℕ) → 0 < m * n → 0 < n
pos_right m zero h = omega arith
pos_right m (suc n) h = omega arith

record Reduced (n : ℤ) (d : ℕ) (r : Ratio) : Type 0 where
  lowest : IsLowest r
  equal : r.numerator *ℤ pos d ≡ n *ℤ pos r.denominator

abbrev reduced : ℤ → ℕ → Ratio
reduced n d = record { numerator = int_div n (pos (gcd_of (unsigned_abs n) d)); denominator = d / gcd_of (unsigned_abs n) d }

reduced_is : (n : ℤ) (d : ℕ) → 0 < d → Reduced n d (reduced n d)
reduced_is n d above =
    let g = gcd_of (unsigned_abs n) d in
    let gcd : IsGcd (unsigned_abs n) d g = IsGcd-gcd_of (unsigned_abs n) d in
    let q = int_div n (pos g) in
    let d' = d / g in
    let g_above : 0 < g = pos_of_dvd_of_pos gcd.1 above in
    let d_is : d ≡ g * d' = sym (mul-div_cancel' g gcd.1) in
    let n_is : n ≡ q *ℤ pos g = sym (quot-times n g gcd.0) in
    let abs_n : unsigned_abs n ≡ g * unsigned_abs q = ap unsigned_abs n_is ∙ abs-times q g ∙ mul_comm (unsigned_abs q) g in
    record {
      lowest = (
        pos_right g d' (subst (λ m. 0 < m) d_is above),
        gcd-Apart (unsigned_abs q) d' (Apart-quotients (unsigned_abs n) d g (unsigned_abs q) d' gcd g_above abs_n d_is),
      );
      equal = ap (λ m. q *ℤ pos m) d_is ∙ sym (times-pos q g d') ∙ ap (λ z. z *ℤ pos d') (sym n_is);
    }

zero_lowest : IsLowest (whole (pos 0))
zero_lowest = (omega arith, gcd-Apart 0 1 (λ e p q. q))

over_is : ℤ → ℕ → Rational
over_is n zero = (whole (pos 0), zero_lowest)
over_is n (suc d) = (reduced n (suc d), (reduced_is n (suc d) (omega arith)).lowest)

-- the number that a fraction names
pub number : Ratio → Rational
number x = over_is x.numerator x.denominator

over_equal : (n : ℤ) (d : ℕ) → 0 < d → (over_is n d).0.numerator *ℤ pos d ≡ n *ℤ pos (over_is n d).0.denominator
unfolding over_is
over_equal n zero above = absurd (omega arith)
over_equal n (suc d) above = (reduced_is n (suc d) (omega arith)).equal

pub number_same : (x : Ratio) → 0 < x.denominator → SameNumber (number x).0 x
unfolding number
number_same x above = over_equal x.numerator x.denominator above

swapped : (a b c : ℤ) → (a *ℤ b) *ℤ c ≡ (a *ℤ c) *ℤ b
swapped a b c = solve wholes (a ∷ b ∷ c ∷ []) (product (product (var 0) (var 1)) (var 2)) (product (product (var 0) (var 2)) (var 1)) refl

pub same_sym : (x y : Ratio) → SameNumber x y → SameNumber y x
same_sym x y e = sym e

pub same_trans : (x y z : Ratio) → 0 < y.denominator → SameNumber x y → SameNumber y z → SameNumber x z
same_trans x y z above e f =
    times_cancel (x.numerator *ℤ pos z.denominator) (z.numerator *ℤ pos x.denominator) y.denominator above
    (swapped x.numerator (pos z.denominator) (pos y.denominator) ∙ ap (λ w. w *ℤ pos z.denominator) e
    ∙ swapped y.numerator (pos x.denominator) (pos z.denominator)
    ∙ ap (λ w. w *ℤ pos x.denominator) f
    ∙ swapped z.numerator (pos y.denominator) (pos x.denominator)
    )

pub number_eq : (x y : Ratio) → 0 < x.denominator → 0 < y.denominator → SameNumber x y → number x ≡ number y
number_eq x y fx fy e =
    rational_eq (number x) (number y)
    (lowest_unique (number x).0 (number y).0 (number x).1 (number y).1
    (same_trans (number x).0 x (number y).0 fx (number_same x fx) (same_trans x y (number y).0 fy e (same_sym (number y).0 y (number_same y fy)))))

pub number_back : (x y : Ratio) → 0 < x.denominator → 0 < y.denominator → number x ≡ number y → SameNumber x y
number_back x y fx fy e =
    same_trans x (number x).0 y (number x).1.0 (same_sym (number x).0 x (number_same x fx))
    (subst (λ (q : Rational). SameNumber q.0 y) (sym e) (number_same y fy))

pub number_of : (q : Rational) → number q.0 ≡ q
number_of q = rational_eq (number q.0) q (lowest_unique (number q.0).0 q.0 (number q.0).1 q.1 (number_same q.0 q.1.0))

-- ---- the operations

pub plus_same : (x x' y y' : Ratio) → SameNumber x x' → SameNumber y y' → SameNumber (unreduced_sum x y) (unreduced_sum x' y')
plus_same x x' y y' e f =
    solve wholes vars
    (product (sum (product (var 0) (var 3)) (product (var 2) (var 1))) (product (var 5) (var 7)))
    (sum (product (product (var 0) (var 5)) (product (var 3) (var 7))) (product (product (var 2) (var 7)) (product (var 1) (var 5)))) refl
    ∙ ap₂ (λ s t. s *ℤ (pos y.denominator *ℤ pos y'.denominator) +ℤ t *ℤ (pos x.denominator *ℤ pos x'.denominator)) e f
    ∙ solve wholes vars
    (sum (product (product (var 4) (var 1)) (product (var 3) (var 7))) (product (product (var 6) (var 3)) (product (var 1) (var 5))))
    (product (sum (product (var 4) (var 7)) (product (var 6) (var 5))) (product (var 1) (var 3))) refl
  where
    vars : List ℤ
    vars = x.numerator ∷ pos x.denominator ∷ y.numerator ∷ pos y.denominator ∷ x'.numerator ∷ pos x'.denominator ∷ y'.numerator ∷ pos y'.denominator ∷ []

pub times_same : (x x' y y' : Ratio) → SameNumber x x' → SameNumber y y' → SameNumber (unreduced_product x y) (unreduced_product x' y')
times_same x x' y y' e f =
    solve wholes vars (product (product (var 0) (var 2)) (product (var 5) (var 7))) (product (product (var 0) (var 5)) (product (var 2) (var 7))) refl
    ∙ ap₂ ◌*ℤ◌ e f
    ∙ solve wholes vars (product (product (var 4) (var 1)) (product (var 6) (var 3))) (product (product (var 4) (var 6)) (product (var 1) (var 3))) refl
  where
    vars : List ℤ
    vars = x.numerator ∷ pos x.denominator ∷ y.numerator ∷ pos y.denominator ∷ x'.numerator ∷ pos x'.denominator ∷ y'.numerator ∷ pos y'.denominator ∷ []

-- an operation on fractions that respects which numbers they name, commutes and may be regrouped
record Operation : Type 0 where
  of : Ratio → Ratio → Ratio
  above : (x y : Ratio) → 0 < x.denominator → 0 < y.denominator → 0 < (of x y).denominator
  respects : (x x' y y' : Ratio) → SameNumber x x' → SameNumber y y' → SameNumber (of x y) (of x' y')
  commutes : Commutes of
  regroups : Regroups of

abbrev sums : Operation
sums =
    record {
      of = unreduced_sum;
      above = λ x y. pos_times x.denominator y.denominator;
      respects = plus_same;
      commutes = sum_commutes;
      regroups = sum_regroups;
    }

abbrev products : Operation
products =
    record {
      of = unreduced_product;
      above = λ x y. pos_times x.denominator y.denominator;
      respects = times_same;
      commutes = product_commutes;
      regroups = product_regroups;
    }

-- the operation on the numbers
abbrev on : Operation → Rational → Rational → Rational
on o p q = number (o.of p.0 q.0)

on_numbers : (o : Operation) (x y : Ratio) → 0 < x.denominator → 0 < y.denominator → number (o.of x y) ≡ on o (number x) (number y)
on_numbers o x y fx fy =
    number_eq (o.of x y) (o.of (number x).0 (number y).0) (o.above x y fx fy) (o.above (number x).0 (number y).0 (number x).1.0 (number y).1.0)
    (o.respects x (number x).0 y (number y).0 (same_sym (number x).0 x (number_same x fx)) (same_sym (number y).0 y (number_same y fy)))

on_left : (o : Operation) (x : Ratio) (q : Rational) → 0 < x.denominator → on o (number x) q ≡ number (o.of x q.0)
on_left o x q fx = ap (on o (number x)) (sym (number_of q)) ∙ sym (on_numbers o x q.0 fx q.1.0)

on_right : (o : Operation) (p : Rational) (y : Ratio) → 0 < y.denominator → on o p (number y) ≡ number (o.of p.0 y)
on_right o p y fy = ap (λ z. on o z (number y)) (sym (number_of p)) ∙ sym (on_numbers o p.0 y p.1.0 fy)

above_both : (o : Operation) (p q : Rational) → 0 < (o.of p.0 q.0).denominator
above_both o p q = o.above p.0 q.0 p.1.0 q.1.0

on_commutes : (o : Operation) (p q : Rational) → on o p q ≡ on o q p
on_commutes o p q = number_eq (o.of p.0 q.0) (o.of q.0 p.0) (above_both o p q) (above_both o q p) (o.commutes p.0 q.0)

on_regroups : (o : Operation) (p q r : Rational) → on o (on o p q) r ≡ on o p (on o q r)
on_regroups o p q r =
    on_left o (o.of p.0 q.0) r (above_both o p q)
    ∙ number_eq (o.of (o.of p.0 q.0) r.0) (o.of p.0 (o.of q.0 r.0)) (o.above (o.of p.0 q.0) r.0 (above_both o p q) r.1.0) (o.above p.0 (o.of q.0 r.0) p.1.0 (above_both o q r))
    (o.regroups p.0 q.0 r.0)
    ∙ sym (on_right o p (o.of q.0 r.0) (above_both o q r))

-- with a number that changes none
on_neutral : (o : Operation) (n : Ratio) → 0 < n.denominator → IsNeutral o.of n → (p : Rational) → on o p (number n) ≡ p
on_neutral o n fn same p = on_right o p n fn ∙ number_eq (o.of p.0 n) p.0 (o.above p.0 n p.1.0 fn) p.1.0 (same p.0) ∙ number_of p

pub rational_sum : Rational → Rational → Rational
rational_sum p q = number (unreduced_sum p.0 q.0)

pub rational_product : Rational → Rational → Rational
rational_product p q = number (unreduced_product p.0 q.0)

pub rational_negation : Rational → Rational
rational_negation p = number (negation_of p.0)

pub number_plus : (x y : Ratio) → 0 < x.denominator → 0 < y.denominator → number (unreduced_sum x y) ≡ rational_sum (number x) (number y)
unfolding rational_sum
number_plus x y fx fy = on_numbers sums x y fx fy

pub number_times : (x y : Ratio) → 0 < x.denominator → 0 < y.denominator → number (unreduced_product x y) ≡ rational_product (number x) (number y)
unfolding rational_product
number_times x y fx fy = on_numbers products x y fx fy

neg_same : (x y : Ratio) → SameNumber x y → SameNumber (negation_of x) (negation_of y)
neg_same x y e =
    solve wholes (x.numerator ∷ pos y.denominator ∷ []) (product (minus (var 0)) (var 1)) (minus (product (var 0) (var 1))) refl ∙ ap neg_ℤ e
    ∙ solve wholes (y.numerator ∷ pos x.denominator ∷ []) (minus (product (var 0) (var 1))) (product (minus (var 0)) (var 1)) refl

pub number_neg : (x : Ratio) → 0 < x.denominator → number (negation_of x) ≡ rational_negation (number x)
unfolding rational_negation
number_neg x fx =
    number_eq (negation_of x) (negation_of (number x).0) fx (number x).1.0 (neg_same x (number x).0 (same_sym (number x).0 x (number_same x fx)))

pub rational_zero : Rational
rational_zero = number (whole (pos 0))

pub rational_one : Rational
rational_one = number (whole (pos 1))

pub rational_sum-is : (p q : Rational) → rational_sum p q ≡ number (unreduced_sum p.0 q.0)
unfolding rational_sum
rational_sum-is p q = refl

pub rational_product-is : (p q : Rational) → rational_product p q ≡ number (unreduced_product p.0 q.0)
unfolding rational_product
rational_product-is p q = refl

pub rational_negation-is : (p : Rational) → rational_negation p ≡ number (negation_of p.0)
unfolding rational_negation
rational_negation-is p = refl

pub rational_zero-is : rational_zero ≡ number (whole (pos 0))
unfolding rational_zero
rational_zero-is = refl

pub rational_one-is : rational_one ≡ number (whole (pos 1))
unfolding rational_one
rational_one-is = refl

-- ---- the laws, each by an equation of unreduced fractions

pub rational_sum-comm : (p q : Rational) → rational_sum p q ≡ rational_sum q p
unfolding rational_sum
rational_sum-comm p q = on_commutes sums p q

pub rational_product-comm : (p q : Rational) → rational_product p q ≡ rational_product q p
unfolding rational_product
rational_product-comm p q = on_commutes products p q

pub rational_sum-assoc : (p q r : Rational) → rational_sum (rational_sum p q) r ≡ rational_sum p (rational_sum q r)
unfolding rational_sum
rational_sum-assoc p q r = on_regroups sums p q r

pub rational_product-assoc : (p q r : Rational) → rational_product (rational_product p q) r ≡ rational_product p (rational_product q r)
unfolding rational_product
rational_product-assoc p q r = on_regroups products p q r

pub rational_sum-none : (p : Rational) → rational_sum p rational_zero ≡ p
unfolding rational_sum rational_zero
rational_sum-none p = on_neutral sums (whole (pos 0)) (omega arith) sum_with_zero p

pub rational_product-one : (p : Rational) → rational_product p rational_one ≡ p
unfolding rational_product rational_one
rational_product-one p = on_neutral products (whole (pos 1)) (omega arith) product_with_one p

pub rational_sum-neg : (p : Rational) → rational_sum p (rational_negation p) ≡ rational_zero
unfolding rational_sum rational_negation rational_zero
rational_sum-neg p =
    on_right sums p (negation_of p.0) p.1.0
    ∙ number_eq (unreduced_sum p.0 (negation_of p.0)) (whole (pos 0)) (above_both sums p p) (omega arith) (sum_with_negation p.0)

pub rational_product-plus : (p q r : Rational) → rational_product p (rational_sum q r) ≡ rational_sum (rational_product p q) (rational_product p r)
unfolding rational_sum rational_product
rational_product-plus p q r =
    on_right products p (unreduced_sum q.0 r.0) (above_both sums q r)
    ∙ number_eq (unreduced_product p.0 (unreduced_sum q.0 r.0)) (unreduced_sum (unreduced_product p.0 q.0) (unreduced_product p.0 r.0))
    (pos_times p.0.denominator (q.0.denominator * r.0.denominator) p.1.0 (above_both sums q r))
    (pos_times (p.0.denominator * q.0.denominator) (p.0.denominator * r.0.denominator) (above_both products p q) (above_both products p r))
    (product_over_sum p.0 q.0 r.0)
    ∙ on_numbers sums (unreduced_product p.0 q.0) (unreduced_product p.0 r.0) (above_both products p q) (above_both products p r)

abbrev pub rationals : Ring Rational
rationals =
    record {
      add = rational_sum;
      mul = rational_product;
      neg = rational_negation;
      none = rational_zero;
      one = rational_one;
      add_comm = rational_sum-comm;
      add_assoc = rational_sum-assoc;
      add_none = rational_sum-none;
      add_neg = rational_sum-neg;
      mul_comm = rational_product-comm;
      mul_assoc = rational_product-assoc;
      mul_one = rational_product-one;
      mul_add = rational_product-plus;
    }
