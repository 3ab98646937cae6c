-- The values of rows as rational numbers.
use Rattle.std.proofs.Common.{◌≡◌, ℕ, ◌*◌, ◌<◌, sym, ap, ap₂, ◌∙◌, refl, arith, List, [], ◌∷◌, ◌++◌}
use Rattle.fraction128.specs.declared.ratio.Ratio.{Ratio}
use Rattle.fraction128.proofs.LowestTerms.{pos_times}
use Rattle.fraction128.specs.declared.Entry.{Entry}
use Rattle.fraction128.specs.declared.TableRow.{TableRow}
use Rattle.fraction128.specs.Grid.{row_value, MeetsRow}
use Rattle.fraction128.specs.Number.{unreduced_product}
use Rattle.fraction128.proofs.RingEquations.{var, sum, nothing, solve}
use Rattle.fraction128.proofs.RationalRing.{Rational, number, number_eq, number_back, number_plus, number_times, rational_sum, rational_product, rational_zero, rational_zero-is, rationals}

-- the coefficients have positive denominators
abbrev pub ArePositive : List Entry → Type 0
ArePositive [] = Unit {0}
ArePositive (e ∷ es) = (0 < e.coefficient.denominator) × ArePositive es

pub positive_append : (xs ys : List Entry) → ArePositive xs → ArePositive ys → ArePositive (xs ++ ys)
positive_append [] ys p q = q
positive_append (x ∷ xs) ys p q = (p.0, positive_append xs ys p.1 q)

abbrev pub dot : (ℕ → Rational) → List Entry → Rational
dot v [] = rational_zero
dot v (e ∷ es) = rational_sum (rational_product (number e.coefficient) (v e.variable)) (dot v es)

pub row_value_positive : (v : ℕ → Ratio) (es : List Entry) → ((i : ℕ) → 0 < (v i).denominator) → ArePositive es → 0 < (row_value v es).denominator
row_value_positive v [] h p = omega arith
row_value_positive v (e ∷ es) h p =
    pos_times (e.coefficient.denominator * (v e.variable).denominator) (row_value v es).denominator (pos_times e.coefficient.denominator (v e.variable).denominator p.0 (h e.variable))
    (row_value_positive v es h p.1)

pub number_row_value : (v : ℕ → Ratio) (es : List Entry) → ((i : ℕ) → 0 < (v i).denominator) → ArePositive es → number (row_value v es) ≡ dot (λ i. number (v i)) es
number_row_value v [] h p = sym rational_zero-is
number_row_value v (e ∷ es) h p =
    number_plus (unreduced_product e.coefficient (v e.variable)) (row_value v es) (pos_times e.coefficient.denominator (v e.variable).denominator p.0 (h e.variable)) (row_value_positive v es h p.1)
    ∙ ap₂ rational_sum (number_times e.coefficient (v e.variable) p.0 (h e.variable)) (number_row_value v es h p.1)

-- a row is met exactly where the basic variable has the value of the entries
pub meets_to : (v : ℕ → Ratio) (r : TableRow) → ((i : ℕ) → 0 < (v i).denominator) → ArePositive r.entries → MeetsRow v r → number (v r.basic) ≡ dot (λ i. number (v i)) r.entries
meets_to v r h p m = number_eq (v r.basic) (row_value v r.entries) (h r.basic) (row_value_positive v r.entries h p) m ∙ number_row_value v r.entries h p

pub meets_from : (v : ℕ → Ratio) (r : TableRow) → ((i : ℕ) → 0 < (v i).denominator) → ArePositive r.entries → number (v r.basic) ≡ dot (λ i. number (v i)) r.entries → MeetsRow v r
meets_from v r h p e =
    number_back (v r.basic) (row_value v r.entries) (h r.basic) (row_value_positive v r.entries h p) (e ∙ sym (number_row_value v r.entries h p))

pub dot_append : (v : ℕ → Rational) (xs ys : List Entry) → dot v (xs ++ ys) ≡ rational_sum (dot v xs) (dot v ys)
dot_append v [] ys = solve rationals (dot v ys ∷ []) (var 0) (sum nothing (var 0)) refl
dot_append v (x ∷ xs) ys =
    ap (rational_sum (rational_product (number x.coefficient) (v x.variable))) (dot_append v xs ys)
    ∙ solve rationals (rational_product (number x.coefficient) (v x.variable) ∷ dot v xs ∷ dot v ys ∷ []) (sum (var 0) (sum (var 1) (var 2))) (sum (sum (var 0) (var 1)) (var 2)) refl
