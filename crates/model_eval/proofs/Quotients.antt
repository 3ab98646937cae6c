-- Quotients and remainders of numbers in the range are in it.
use Rattle.std.proofs.Common.{◌≡◌, ℕ, suc, ◌^◌, ◌%◌, ◌-◌, ◌≤◌, ℤ, pos, negsuc, List, [], ◌∷◌, Bool, true, ◌&&◌, unsigned_abs, refl, arith}
use Rattle.std.specs.Prelude.{nat_lt}
use Rattle.std.proofs.Math.Nat.{div-le_self, mod-le}
use Rattle.smt_meaning.specs.declared.values.Value.{Value}
use Rattle.smt_meaning.specs.declared.values.Value.TheVariants.{Truth, Whole, Element}
use Rattle.smt_meaning.specs.declared.terms.Operator.TheVariants.{Divide}
use Rattle.smt_meaning.specs.Term.{quotient, remainder, number_of, left_over, on_numbers, in_range, all_in_range, partials_from, partials_of}
use Rattle.model_eval.specs.Fitted.{fitted_fold, fitted_op}

within : (m n k : ℕ) → m ≤ n → nat_lt n k ≡ true → nat_lt m k ≡ true
within m n k h e = grind arith

quotient_small : (a n : ℤ) → unsigned_abs (quotient a n) ≤ unsigned_abs a
quotient_small (pos a) (pos b) = div-le_self a b
quotient_small (pos a) (negsuc b) = let h = div-le_self a (suc b) in grind (arith, h)
quotient_small (negsuc a) (pos b) = let h = div-le_self a b in grind (arith, h)
quotient_small (negsuc a) (negsuc b) = let h = div-le_self a (suc b) in grind (arith, h)

number_fits : (v : Value) → in_range v ≡ true → in_range (Whole (number_of v)) ≡ true
number_fits (Truth b) h = refl
number_fits (Whole n) h = h
number_fits (Element k) h = refl

and_left : (a b : Bool) → (a && b) ≡ true → a ≡ true
and_left a b h = grind arith

and_right : (a b : Bool) → (a && b) ≡ true → b ≡ true
and_right a b h = grind arith

both : (a b : Bool) → a ≡ true → b ≡ true → (a && b) ≡ true
both a b p q = grind arith

divided_fits : (v w : Value) → in_range v ≡ true → in_range (on_numbers quotient v w) ≡ true
divided_fits v w h =
    within (unsigned_abs (quotient (number_of v) (number_of w))) (unsigned_abs (number_of v)) (2 ^ 127) (quotient_small (number_of v) (number_of w)) (number_fits v h)

-- ---- one after another

quotients_fit_from : (v : Value) (ws : List Value) → in_range v ≡ true → all_in_range (partials_from (on_numbers quotient) v ws) ≡ true
quotients_fit_from v [] h = refl
quotients_fit_from v (w ∷ ws) h =
    let here = divided_fits v w h in
    both (in_range (on_numbers quotient v w)) (all_in_range (partials_from (on_numbers quotient) (on_numbers quotient v w) ws)) here (quotients_fit_from (on_numbers quotient v w) ws here)

quotients_fit : (vs : List Value) → all_in_range vs ≡ true → all_in_range (partials_of (on_numbers quotient) vs) ≡ true
quotients_fit [] h = refl
quotients_fit (v ∷ vs) h = quotients_fit_from v vs (and_left (in_range v) (all_in_range vs) h)

pub fold_divide : (vs : List Value) → all_in_range vs ≡ true → fitted_fold Divide vs ≡ fitted_op Divide vs
fold_divide vs h = rw (quotients_fit vs h)

-- ---- what is left over

left_small : (a n : ℤ) → in_range (Whole a) ≡ true → in_range (Whole n) ≡ true → in_range (Whole (remainder a n)) ≡ true
left_small (pos a) n h k = within (a % unsigned_abs n) a (2 ^ 127) (mod-le a (unsigned_abs n)) h
left_small (negsuc a) n h k = within (unsigned_abs n - 1 - a % unsigned_abs n) (unsigned_abs n) (2 ^ 127) (omega arith) k

pub left_fits : (vs : List Value) → all_in_range vs ≡ true → in_range (Whole (left_over vs)) ≡ true
left_fits [] h = refl
left_fits (v ∷ []) h = refl
left_fits (v ∷ w ∷ vs) h =
    let rest = and_right (in_range v) (all_in_range (w ∷ vs)) h in
    left_small (number_of v) (number_of w) (number_fits v (and_left (in_range v) (all_in_range (w ∷ vs)) h)) (number_fits w (and_left (in_range w) (all_in_range vs) rest))
