-- Rows stay ascending, without zeros, and without the variables that became basic.
use Rattle.std.proofs.Common.{◌≡◌, ◌≢◌, ℕ, zero, suc, ◌+◌, ◌<◌, ◌≤◌, ℤ, ◌*ℤ◌, pos, negsuc, sym, ap, ap₂, ◌∙◌, refl, arith, List, [], ◌∷◌, length, get_or, Bool, true, false, cond, nat_lt, eqb, eqb-true, eq-eqb, unsigned_abs}
use Rattle.std.proofs.lemmas.Bool.Decides.{nat_tests}
use Rattle.std.proofs.lemmas.List.{get_or_default}
use Rattle.fraction128.specs.declared.ratio.Ratio.{Ratio}
use Rattle.fraction128.specs.Listed.{product_of}
use Rattle.fraction128.specs.declared.Entry.{Entry}
use Rattle.fraction128.specs.Number.{whole, is_zero}
use Rattle.fraction128.specs.Listed.{fused}
use Rattle.fraction128.specs.Grid.{coefficient}
use Rattle.fraction128.specs.Listed.{reciprocal_of}
use Rattle.fraction128.proofs.RingEquations.{var, sum, product, nothing, unit, solve, mul_none}
use Rattle.fraction128.proofs.WholeNumbers.{wholes}
use Rattle.fraction128.proofs.RationalRing.{Rational, number, number_back, rational_sum, rational_product, rational_zero, rational_zero-is, rational_one, rationals}
use Rattle.fraction128.proofs.ExactSteps.{product_positive, number_product, fused_positive, number_reciprocal, none_number}
use Rattle.fraction128.proofs.RowValue.{ArePositive, dot}
use Rattle.fraction128.specs.Ratio.{IsFraction}
use Rattle.tableau.specs.Staged.{HasEntry}
use Rattle.tableau.specs.Table.{IsNonzero, AreNonzero, Table, IsOpenRow, row_at}
use Rattle.tableau.specs.Rows.{entry, scaled, multiplied, merged, merged_onto, unless_none, variable_at, coefficient_at, IsAscending}

-- ---- ascending lists, from n on

abbrev pub From : ℕ → List Entry → Type 0
From n [] = Unit {0}
From n (e ∷ es) = (n ≤ e.variable) × From (e.variable + 1) es

pub from_weaker : (m n : ℕ) (es : List Entry) → m ≤ n → From n es → From m es
from_weaker m n [] le h = tt
from_weaker m n (e ∷ es) le h = (omega (arith, h.0, le), h.1)

pub from_bound : (n : ℕ) (es : List Entry) (k : ℕ) → From n es → k < length es → n ≤ variable_at es k
from_bound n [] k h lt = absurd (omega arith)
from_bound n (e ∷ es) zero h lt = h.0
from_bound n (e ∷ es) (suc k) h lt = let b : e.variable + 1 ≤ variable_at es k = from_bound (e.variable + 1) es k h.1 (omega arith) in omega (arith, b, h.0)

from_ascends : (n : ℕ) (es : List Entry) → From n es → (i j : ℕ) → i < j → j < length es → variable_at es i < variable_at es j
from_ascends n [] h i j lt lj = absurd (omega arith)
from_ascends n (e ∷ es) h i zero lt lj = absurd (omega arith)
from_ascends n (e ∷ es) h zero (suc j) lt lj = let b : e.variable + 1 ≤ variable_at es j = from_bound (e.variable + 1) es j h.1 (omega arith) in omega (arith, b)
from_ascends n (e ∷ es) h (suc i) (suc j) lt lj = from_ascends (e.variable + 1) es h.1 i j (omega arith) (omega arith)

pub ascending : (n : ℕ) (es : List Entry) → From n es → IsAscending es
ascending n es h = record { ascends = from_ascends n es h }

from_places : (n : ℕ) (es : List Entry) → ((k : ℕ) → k < length es → n ≤ variable_at es k) → ((i j : ℕ) → i < j → j < length es → variable_at es i < variable_at es j) → From n es
from_places n [] h g = tt
from_places n (e ∷ es) h g = (
  h zero (omega arith),
  from_places (e.variable + 1) es (λ k lt. let b : e.variable < variable_at es k = g zero (suc k) (omega arith) (omega arith) in omega (arith, b))
      (λ i j l lj. g (suc i) (suc j) (omega arith) (omega arith)),
)

pub from_zero : (es : List Entry) → IsAscending es → From 0 es
from_zero es h = from_places 0 es (λ k lt. omega arith) h.ascends

-- ---- multiples and sums ascend

pub from_scaled : (n : ℕ) (t : Ratio) (es : List Entry) → From n es → From n (scaled t es)
from_scaled n t [] h = tt
from_scaled n t (e ∷ es) h = (h.0, from_scaled (e.variable + 1) t es h.1)

pub from_multiplied : (n : ℕ) (a : Ratio) (es : List Entry) → From n es → From n (multiplied a es)
from_multiplied n a [] h = tt
from_multiplied n a (e ∷ es) h = (h.0, from_multiplied (e.variable + 1) a es h.1)

from_unless : (n : ℕ) (e : Entry) (es : List Entry) → n ≤ e.variable → From (e.variable + 1) es → From n (unless_none e es)
from_unless n e es le h = by_test (is_zero e.coefficient)
  where
    by_test : (t : Bool) → From n (cond t es (e ∷ es))
    by_test true = from_weaker n (e.variable + 1) es (omega arith) h
    by_test false = (le, h)

from_onto : (a : Ratio) (x : Entry) (xs : List Entry) (rest : List Entry → List Entry) → ((m : ℕ) (ws : List Entry) → From m xs → From m ws → From m (rest ws))
    → (n : ℕ) (zs : List Entry) → n ≤ x.variable → From (x.variable + 1) xs → From n zs → From n (merged_onto a x rest zs)
from_onto a x xs rest ih n [] le hx hz = (le, ih (x.variable + 1) [] hx tt)
from_onto a x xs rest ih n (z ∷ zs) le hx hz =
    by_test (nat_lt x.variable z.variable) refl (nat_lt z.variable x.variable) refl (λ l. from_onto a x xs rest ih (z.variable + 1) zs l hx hz.1)
  where
    by_test : (t : Bool) → nat_lt x.variable z.variable ≡ t → (u : Bool) → nat_lt z.variable x.variable ≡ u → (z.variable + 1 ≤ x.variable → From (z.variable + 1) (merged_onto a x rest zs))
        → From n (cond t (x ∷ rest (z ∷ zs)) (cond u (entry z.variable (product_of a z.coefficient) ∷ merged_onto a x rest zs) (unless_none (entry x.variable (fused x.coefficient a z.coefficient)) (rest zs))))
    by_test true e u f more =
        let lt : x.variable < z.variable = grind (arith, nat_tests) in
        (le, ih (x.variable + 1) (z ∷ zs) hx (omega (arith, lt), hz.1))
    by_test false e true f more =
        let lt : z.variable < x.variable = grind (arith, nat_tests) in
        (hz.0, more (omega (arith, lt)))
    by_test false e false f more =
        let same : x.variable ≡ z.variable = grind (arith, nat_tests) in
        from_unless n (entry x.variable (fused x.coefficient a z.coefficient)) (rest zs) le (ih (x.variable + 1) zs hx (from_weaker (x.variable + 1) (z.variable + 1) zs (omega (arith, same)) hz.1))

pub from_merged : (a : Ratio) (xs : List Entry) (n : ℕ) (zs : List Entry) → From n xs → From n zs → From n (merged a xs zs)
from_merged a [] n zs hx hz = from_multiplied n a zs hz
from_merged a (x ∷ xs) n zs hx hz = from_onto a x xs (merged a xs) (λ m ws p q. from_merged a xs m ws p q) n zs hx.0 hx.1 hz

-- ---- no zeros

pub nonzero_positive : (es : List Entry) → AreNonzero es → ArePositive es
nonzero_positive [] h = tt
nonzero_positive (e ∷ es) h = (h.0.0, nonzero_positive es h.1)

numerator_zero : (x : Ratio) → 0 < x.denominator → number x ≡ rational_zero → x.numerator ≡ pos 0
numerator_zero x f e =
    let same : x.numerator *ℤ pos 1 ≡ pos 0 *ℤ pos x.denominator = number_back x (whole (pos 0)) f (omega arith) (e ∙ rational_zero-is) in
    mul_unit x.numerator ∙ same ∙ none_mul x.denominator
  where
    mul_unit : (z : ℤ) → z ≡ z *ℤ pos 1
    mul_unit z = solve wholes (z ∷ []) (var 0) (product (var 0) unit) refl

    none_mul : (d : ℕ) → pos 0 *ℤ pos d ≡ pos 0
    none_mul d = solve wholes (pos d ∷ []) (product nothing (var 0)) nothing refl

product_nonzero : (x y : Ratio) → IsNonzero x → IsNonzero y → IsNonzero (product_of x y)
product_nonzero x y fx fy = (
  product_positive x y fx.0 fy.0,
  λ e. fy.1
      (numerator_zero y fy.0
      (solve rationals (number y ∷ []) (var 0) (product unit (var 0)) refl
      ∙ ap (λ m. rational_product m (number y)) (sym (number_reciprocal x fx.0 fx.1))
      ∙ solve rationals (number x ∷ number (reciprocal_of x) ∷ number y ∷ []) (product (product (var 0) (var 1)) (var 2)) (product (var 1) (product (var 0) (var 2))) refl
      ∙ ap (rational_product (number (reciprocal_of x))) (sym (number_product x y fx.0 fy.0) ∙ zero_is (product_of x y) (product_positive x y fx.0 fy.0) e)
      ∙ mul_none rationals (number (reciprocal_of x))
      )),
)
  where
    zero_is : (z : Ratio) → 0 < z.denominator → z.numerator ≡ pos 0 → number z ≡ rational_zero
    zero_is z f e = none_number z f (eq-eqb (unsigned_abs z.numerator) 0 (ap unsigned_abs e))

pub nonzero_scaled : (t : Ratio) (es : List Entry) → IsNonzero t → AreNonzero es → AreNonzero (scaled t es)
nonzero_scaled t [] ft h = tt
nonzero_scaled t (e ∷ es) ft h = (product_nonzero e.coefficient t h.0 ft, nonzero_scaled t es ft h.1)

pub nonzero_multiplied : (a : Ratio) (es : List Entry) → IsNonzero a → AreNonzero es → AreNonzero (multiplied a es)
nonzero_multiplied a [] fa h = tt
nonzero_multiplied a (e ∷ es) fa h = (product_nonzero a e.coefficient fa h.0, nonzero_multiplied a es fa h.1)

nonzero_unless : (e : Entry) (es : List Entry) → 0 < e.coefficient.denominator → AreNonzero es → AreNonzero (unless_none e es)
nonzero_unless e es f h = by_test (is_zero e.coefficient) refl
  where
    by_test : (t : Bool) → is_zero e.coefficient ≡ t → AreNonzero (cond t es (e ∷ es))
    by_test true is = h
    by_test false is = ((f, λ z. let w : true ≡ false = sym (eq-eqb (unsigned_abs e.coefficient.numerator) 0 (ap unsigned_abs z)) ∙ is in absurd (cc)), h)

nonzero_onto : (a : Ratio) (x : Entry) (xs : List Entry) (rest : List Entry → List Entry) → IsNonzero a → IsNonzero x.coefficient
    → ((ws : List Entry) → AreNonzero ws → AreNonzero (rest ws)) → (zs : List Entry) → AreNonzero zs → AreNonzero (merged_onto a x rest zs)
nonzero_onto a x xs rest fa fx ih [] h = (fx, ih [] tt)
nonzero_onto a x xs rest fa fx ih (z ∷ zs) h = by_test (nat_lt x.variable z.variable) (nat_lt z.variable x.variable) (nonzero_onto a x xs rest fa fx ih zs h.1)
  where
    by_test : (t u : Bool) → AreNonzero (merged_onto a x rest zs)
        → AreNonzero (cond t (x ∷ rest (z ∷ zs)) (cond u (entry z.variable (product_of a z.coefficient) ∷ merged_onto a x rest zs) (unless_none (entry x.variable (fused x.coefficient a z.coefficient)) (rest zs))))
    by_test true u more = (fx, ih (z ∷ zs) h)
    by_test false true more = (product_nonzero a z.coefficient fa h.0, more)
    by_test false false more =
        nonzero_unless (entry x.variable (fused x.coefficient a z.coefficient)) (rest zs) (fused_positive x.coefficient a z.coefficient fx.0 fa.0 h.0.0) (ih zs h.1)

pub nonzero_merged : (a : Ratio) (xs zs : List Entry) → IsNonzero a → AreNonzero xs → AreNonzero zs → AreNonzero (merged a xs zs)
nonzero_merged a [] zs fa p q = nonzero_multiplied a zs fa q
nonzero_merged a (x ∷ xs) zs fa p q = nonzero_onto a x xs (merged a xs) fa p.0 (λ ws r. nonzero_merged a xs ws fa p.1 r) zs q

-- ---- a variable that doesn't stand in a list

abbrev pub Free : ℕ → List Entry → Type 0
Free c [] = Unit {0}
Free c (e ∷ es) = (e.variable ≢ c) × Free c es

pub free_places : (c : ℕ) (es : List Entry) → Free c es → (k : ℕ) → k < length es → variable_at es k ≢ c
free_places c [] h k lt = absurd (omega arith)
free_places c (e ∷ es) h zero lt = h.0
free_places c (e ∷ es) h (suc k) lt = free_places c es h.1 k (omega arith)

pub places_free : (c : ℕ) (es : List Entry) → ((k : ℕ) → k < length es → variable_at es k ≢ c) → Free c es
places_free c [] h = tt
places_free c (e ∷ es) h = (h zero (omega arith), places_free c es (λ k lt. h (suc k) (omega arith)))

pub free_above : (c n : ℕ) (es : List Entry) → c < n → From n es → Free c es
free_above c n [] lt h = tt
free_above c n (e ∷ es) lt h = ((λ q. absurd (omega (arith, q, h.0, lt))), free_above c (e.variable + 1) es (omega (arith, h.0, lt)) h.1)

-- 1 for one variable, 0 for the others
pub only : ℕ → ℕ → Rational
only c i = cond (eqb i c) rational_one rational_zero

pub only_same : (c i : ℕ) → i ≡ c → only c i ≡ rational_one
unfolding only
only_same c i e = ap (λ t. cond t rational_one rational_zero) (eq-eqb i c e)

pub only_other : (c i : ℕ) → i ≢ c → only c i ≡ rational_zero
unfolding only
only_other c i h = by_test (eqb i c) refl
  where
    by_test : (t : Bool) → eqb i c ≡ t → cond t rational_one rational_zero ≡ rational_zero
    by_test true e = absurd (h (eqb-true i c e))
    by_test false e = refl

pub dot_free : (c : ℕ) (es : List Entry) → Free c es → dot (only c) es ≡ rational_zero
dot_free c [] h = refl
dot_free c (e ∷ es) h =
    ap₂ (λ m n. rational_sum (rational_product (number e.coefficient) m) n) (only_other c e.variable h.0) (dot_free c es h.1)
    ∙ solve rationals (number e.coefficient ∷ []) (sum (product (var 0) nothing) nothing) nothing refl

-- where the coefficients of a variable add up to 0 in an ascending list without zeros, it doesn't stand there
pub free_of_zero : (c n : ℕ) (es : List Entry) → From n es → AreNonzero es → dot (only c) es ≡ rational_zero → Free c es
free_of_zero c n [] h f e = tt
free_of_zero c n (x ∷ es) h f e = by_test (eqb x.variable c) refl (λ q. free_of_zero c (x.variable + 1) es h.1 f.1 q)
  where
    differs : (x.variable ≡ c → ⊥) → dot (only c) es ≡ rational_zero
    differs ne =
        solve rationals (number x.coefficient ∷ dot (only c) es ∷ []) (var 1) (sum (product (var 0) nothing) (var 1)) refl
        ∙ ap (λ m. rational_sum (rational_product (number x.coefficient) m) (dot (only c) es)) (sym (only_other c x.variable ne))
        ∙ e

    stands : x.variable ≡ c → ⊥
    stands is =
        f.0.1
        (numerator_zero x.coefficient f.0.0
        (solve rationals (number x.coefficient ∷ []) (var 0) (sum (product (var 0) unit) nothing) refl
        ∙ ap₂ (λ m n. rational_sum (rational_product (number x.coefficient) m) n) (sym (only_same c x.variable is)) (sym (dot_free c es (free_above c (x.variable + 1) es (omega (arith, is)) h.1)))
        ∙ e
        ))

    by_test : (t : Bool) → eqb x.variable c ≡ t → (dot (only c) es ≡ rational_zero → Free c es) → Free c (x ∷ es)
    by_test true is ih = absurd (stands (eqb-true x.variable c is))
    by_test false is ih = (stands, ih (differs stands))

-- ---- coefficients by variable

pub coefficient_free : (c : ℕ) (es : List Entry) → Free c es → coefficient es c ≡ whole (pos 0)
coefficient_free c [] h = refl
coefficient_free c (e ∷ es) h = by_test (eqb e.variable c) refl (coefficient_free c es h.1)
  where
    by_test : (t : Bool) → eqb e.variable c ≡ t → coefficient es c ≡ whole (pos 0) → cond t e.coefficient (coefficient es c) ≡ whole (pos 0)
    by_test true is ih = absurd (h.0 (eqb-true e.variable c is))
    by_test false is ih = ih

pub coefficient_place : (n : ℕ) (es : List Entry) (i : ℕ) → From n es → i < length es → coefficient es (variable_at es i) ≡ coefficient_at es i
coefficient_place n [] i h lt = absurd (omega arith)
coefficient_place n (e ∷ es) zero h lt = ap (λ t. cond t e.coefficient (coefficient es e.variable)) (eq-eqb e.variable e.variable refl)
coefficient_place n (e ∷ es) (suc i) h lt =
    by_test (eqb e.variable (variable_at es i)) refl (coefficient_place (e.variable + 1) es i h.1 (omega arith)) (from_bound (e.variable + 1) es i h.1 (omega arith))
  where
    by_test : (t : Bool) → eqb e.variable (variable_at es i) ≡ t → coefficient es (variable_at es i) ≡ coefficient_at es i → e.variable + 1 ≤ variable_at es i
        → cond t e.coefficient (coefficient es (variable_at es i)) ≡ coefficient_at es i
    by_test true is ih b = let e : e.variable ≡ variable_at es i = eqb-true e.variable (variable_at es i) is in absurd (omega (arith, e, b))
    by_test false is ih b = ih

pub coefficient_found : (es : List Entry) (i c : ℕ) → IsAscending es → i < length es → variable_at es i ≡ c → coefficient_at es i ≡ coefficient es c
coefficient_found es i c asc lt is = sym (coefficient_place 0 es i (from_zero es asc) lt) ∙ ap (coefficient es) is

abs_zero : (z : ℤ) → unsigned_abs z ≡ 0 → z ≡ pos 0
abs_zero (pos n) e = ap pos e
abs_zero (negsuc n) e = absurd (omega arith)

pub nonzero_at : (es : List Entry) (i : ℕ) → AreNonzero es → i < length es → IsNonzero (coefficient_at es i)
nonzero_at [] i h lt = absurd (omega arith)
nonzero_at (e ∷ es) zero h lt = h.0
nonzero_at (e ∷ es) (suc i) h lt = nonzero_at es i h.1 (omega arith)

pub found_nonzero : (es : List Entry) (i : ℕ) (d : Entry) → AreNonzero es → i < length es → is_zero (get_or es i d).coefficient ≡ false
found_nonzero es i d h lt =
    ap (λ (e : Entry). is_zero e.coefficient) (get_or_default es i d (entry 0 (whole (pos 0))) lt) ∙ by_test (is_zero (coefficient_at es i)) refl
  where
    by_test : (t : Bool) → is_zero (coefficient_at es i) ≡ t → t ≡ false
    by_test true e = absurd ((nonzero_at es i h lt).1 (abs_zero (coefficient_at es i).numerator (eqb-true (unsigned_abs (coefficient_at es i).numerator) 0 e)))
    by_test false e = refl

pub lacking_zero : (es : List Entry) (c : ℕ) → ((k : ℕ) → k < length es → variable_at es k ≢ c) → is_zero (coefficient es c) ≡ true
lacking_zero es c h = ap is_zero (coefficient_free c es (places_free c es h))

-- a coefficient that isn't 0 has an entry
pub has_entry : (c : ℕ) (es : List Entry) → is_zero (coefficient es c) ≡ false → HasEntry c es
has_entry c [] e = absurd (let f : true ≡ false = e in cc)
has_entry c (x ∷ es) e = by_test (eqb x.variable c) refl (has_entry c es) e
  where
    by_test : (t : Bool) → eqb x.variable c ≡ t → (is_zero (coefficient es c) ≡ false → HasEntry c es) → is_zero (cond t x.coefficient (coefficient es c)) ≡ false → HasEntry c (x ∷ es)
    by_test true is more w =
        record {
          place = zero;
          in_row = omega arith;
          is = eqb-true x.variable c is;
          nonzero = λ z. let f : true ≡ false = sym (eq-eqb (unsigned_abs x.coefficient.numerator) 0 (ap unsigned_abs z)) ∙ w in absurd (cc);
        }
    by_test false is more w = let h = more w in record { place = suc h.place; in_row = omega (arith, h.in_row); is = h.is; nonzero = h.nonzero }

-- the entries of a new row, told place by place
pub open_row : (t : Table) (es : List Entry) → ((k : ℕ) → k < length es → IsFraction (coefficient_at es k)) → ((i j : ℕ) → i < j → j < length es → variable_at es i < variable_at es j)
    → ((k : ℕ) → k < length es → (coefficient_at es k).numerator ≢ pos 0) → ((k : ℕ) → k < length es → variable_at es k < t.count)
    → ((k i : ℕ) → k < length es → i < length t.rows → (row_at t.rows i).basic ≢ variable_at es k) → IsOpenRow t es
open_row t es fractions ascends nonzero known separate =
    record {
      ascending = record { ascends = ascends };
      nonzero = all_nonzero es fractions nonzero;
      known = λ j le k lt e. let b = known k lt in absurd (omega (arith, le, b, e));
      separate = λ i h k lt e. separate k i lt h (sym e);
    }
  where
    all_nonzero : (xs : List Entry) → ((k : ℕ) → k < length xs → IsFraction (coefficient_at xs k)) → ((k : ℕ) → k < length xs → (coefficient_at xs k).numerator ≢ pos 0) → AreNonzero xs
    all_nonzero [] f g = tt
    all_nonzero (x ∷ xs) f g = (((f zero (omega arith)).positive, g zero (omega arith)), all_nonzero xs (λ k lt. f (suc k) (omega arith)) (λ k lt. g (suc k) (omega arith)))
