-- The equations of a field, on unreduced fractions: each up to being one number.
use Rattle.std.proofs.Common.{◌≡◌, ℕ, suc, ◌+◌, ◌*◌, ℤ, pos, negsuc, ◌*ℤ◌, neg_ℤ, ap, ◌∙◌, refl, List, [], ◌∷◌}
use Rattle.fraction128.specs.declared.ratio.Ratio.{Ratio}
use Rattle.fraction128.specs.Listed.{negation_of, reciprocal_of}
use Rattle.fraction128.specs.Number.{whole, SameNumber, unreduced_sum, unreduced_product}
use Rattle.fraction128.proofs.RingEquations.{Term, var, sum, product, minus, nothing, unit, value, normal, solve}
use Rattle.fraction128.proofs.WholeNumbers.{wholes}

-- the numerator and the denominator of a fraction, and of a sum and a product, as terms
abbrev Parts : Type 0
Parts = Term × Term

abbrev at_place : ℕ → Parts
at_place i = (var (2 * i), var (2 * i + 1))

abbrev added : Parts → Parts → Parts
added a b = (sum (product a.0 b.1) (product b.0 a.1), product a.1 b.1)

abbrev multiplied : Parts → Parts → Parts
multiplied a b = (product a.0 b.0, product a.1 b.1)

abbrev turned : Parts → Parts
turned a = (minus a.0, a.1)

abbrev none_parts : Parts
none_parts = (nothing, unit)

abbrev one_parts : Parts
one_parts = (unit, unit)

abbrev over : Parts → Parts → Term
over a b = product a.0 b.1

abbrev pub vars : List Ratio → List ℤ
vars [] = []
vars (x ∷ xs) = x.numerator ∷ pos x.denominator ∷ vars xs

-- what may hold of an operation, up to being one number
abbrev pub Commutes : (Ratio → Ratio → Ratio) → Type 0
Commutes f = (x y : Ratio) → SameNumber (f x y) (f y x)

abbrev pub Regroups : (Ratio → Ratio → Ratio) → Type 0
Regroups f = (x y z : Ratio) → SameNumber (f (f x y) z) (f x (f y z))

abbrev pub IsNeutral : (Ratio → Ratio → Ratio) → Ratio → Type 0
IsNeutral f n = (x : Ratio) → SameNumber (f x n) x

-- the sides of these equations
abbrev commuted : (Parts → Parts → Parts) → Parts × Parts
commuted f = (f (at_place 0) (at_place 1), f (at_place 1) (at_place 0))

abbrev regrouped : (Parts → Parts → Parts) → Parts × Parts
regrouped f = (f (f (at_place 0) (at_place 1)) (at_place 2), f (at_place 0) (f (at_place 1) (at_place 2)))

abbrev left_alone : (Parts → Parts → Parts) → Parts → Parts × Parts
left_alone f n = (f (at_place 0) n, at_place 0)

-- two terms with one normal form name one number
one_number : (xs : List Ratio) (e : Parts × Parts) → normal (over e.0 e.1) ≡ normal (over e.1 e.0) → value wholes (vars xs) (over e.0 e.1) ≡ value wholes (vars xs) (over e.1 e.0)
one_number xs e = solve wholes (vars xs) (over e.0 e.1) (over e.1 e.0)

pub sum_commutes : Commutes unreduced_sum
sum_commutes x y = one_number (x ∷ y ∷ []) (commuted added) refl

pub sum_regroups : Regroups unreduced_sum
sum_regroups x y z = one_number (x ∷ y ∷ z ∷ []) (regrouped added) refl

pub sum_with_zero : IsNeutral unreduced_sum (whole (pos 0))
sum_with_zero x = one_number (x ∷ []) (left_alone added none_parts) refl

pub sum_with_negation : (x : Ratio) → SameNumber (unreduced_sum x (negation_of x)) (whole (pos 0))
sum_with_negation x = one_number (x ∷ []) (added (at_place 0) (turned (at_place 0)), none_parts) refl

pub product_commutes : Commutes unreduced_product
product_commutes x y = one_number (x ∷ y ∷ []) (commuted multiplied) refl

pub product_regroups : Regroups unreduced_product
product_regroups x y z = one_number (x ∷ y ∷ z ∷ []) (regrouped multiplied) refl

pub product_with_one : IsNeutral unreduced_product (whole (pos 1))
product_with_one x = one_number (x ∷ []) (left_alone multiplied one_parts) refl

pub product_over_sum : (x y z : Ratio) → SameNumber (unreduced_product x (unreduced_sum y z)) (unreduced_sum (unreduced_product x y) (unreduced_product x z))
product_over_sum x y z =
    let r = added (multiplied (at_place 0) (at_place 1)) (multiplied (at_place 0) (at_place 2)) in
    one_number (x ∷ y ∷ z ∷ []) (multiplied (at_place 0) (added (at_place 1) (at_place 2)), r) refl

pub product_with_reciprocal : (x : Ratio) → SameNumber (unreduced_product x (reciprocal_of x)) (whole (pos 1))
product_with_reciprocal x = by_sign x.numerator x.denominator
  where
    by_sign : (n : ℤ) (d : ℕ) → SameNumber (unreduced_product (record { numerator = n; denominator = d }) (reciprocal_of (record { numerator = n; denominator = d }))) (whole (pos 1))
    by_sign (pos n) d = solve wholes (pos n ∷ pos d ∷ []) (product (product (var 0) (var 1)) unit) (product unit (product (var 1) (var 0))) refl
    by_sign (negsuc n) d =
        ap (λ z. z *ℤ neg_ℤ (pos d) *ℤ pos 1) minus_is
        ∙ solve wholes (pos (suc n) ∷ pos d ∷ []) (product (product (minus (var 0)) (minus (var 1))) unit) (product unit (product (var 1) (var 0))) refl
      where
        minus_is : negsuc n ≡ neg_ℤ (pos (suc n))
        minus_is = refl
