-- Which rows of divisions speak of the truth of a term.
use Rattle.std.proofs.Common.{◌≡◌, ℕ, Bool, true, false, ◌&&◌, List, [], ◌∷◌, All, Option, Some, None, refl}
use Rattle.std.specs.Prelude.{ℤ}
use Rattle.std.proofs.lemmas.List.Elements.{All-cons, All-nil}
use Rattle.smt_laws.proofs.Both.{and_left, and_right}
use Rattle.smt_meaning.specs.declared.terms.Operator.TheVariants.{Divide, Modulo, Absolute}
use Rattle.pair_bounds.specs.declared.rows.Row.{Row}
use Rattle.pair_bounds.specs.Rows.{placed_rows}

abbrev pub IsSilent : Row → Type 0
IsSilent r = r.truth ≡ None

abbrev silent_of : Option Bool → Bool
silent_of None = true
silent_of (Some b) = false

abbrev silent : List Row → Bool
silent [] = true
silent (r ∷ rs) = silent_of r.truth && silent rs

all_silent : (rs : List Row) → silent rs ≡ true → All IsSilent rs
all_silent [] h = All-nil IsSilent
all_silent (r ∷ rs) h = All-cons IsSilent r rs (by r.truth (and_left (silent_of r.truth) (silent rs) h)) (all_silent rs (and_right (silent_of r.truth) (silent rs) h))
  where
    by : (o : Option Bool) → silent_of o ≡ true → o ≡ None
    by None k = refl
    by (Some b) k = absurd (let x : false ≡ true = k in cc)

quotient_by : (n : ℤ) (p : ℕ) (is : List ℕ) → silent (placed_rows Divide n p is) ≡ true
quotient_by n p [] = refl
quotient_by n p (a ∷ []) = refl
quotient_by n p (a ∷ d ∷ []) = refl
quotient_by n p (a ∷ d ∷ q ∷ is) = refl

remainder_by : (n : ℤ) (p : ℕ) (is : List ℕ) → silent (placed_rows Modulo n p is) ≡ true
remainder_by n p [] = refl
remainder_by n p (a ∷ []) = refl
remainder_by n p (a ∷ d ∷ []) = refl
remainder_by n p (a ∷ d ∷ q ∷ []) = refl
remainder_by n p (a ∷ d ∷ q ∷ i ∷ is) = refl

absolute_by : (n : ℤ) (p : ℕ) (is : List ℕ) → silent (placed_rows Absolute n p is) ≡ true
absolute_by n p [] = refl
absolute_by n p (a ∷ []) = refl
absolute_by n p (a ∷ d ∷ is) = refl

pub quotient_silent : (n : ℤ) (p : ℕ) (is : List ℕ) → All IsSilent (placed_rows Divide n p is)
quotient_silent n p is = all_silent (placed_rows Divide n p is) (quotient_by n p is)

pub remainder_silent : (n : ℤ) (p : ℕ) (is : List ℕ) → All IsSilent (placed_rows Modulo n p is)
remainder_silent n p is = all_silent (placed_rows Modulo n p is) (remainder_by n p is)

pub absolute_silent : (n : ℤ) (p : ℕ) (is : List ℕ) → All IsSilent (placed_rows Absolute n p is)
absolute_silent n p is = all_silent (placed_rows Absolute n p is) (absolute_by n p is)
