-- Sums by the coefficients of places.
use Rattle.std.specs.Prelude.{◌≢◌, ℕ, ◌+◌, ◌<◌, ◌≤◌, Bool, true, false, nat_eq, List, [], ◌∷◌, ℤ, pos, negsuc, ◌*ℤ◌, if◌then◌else◌}
use Rattle.smt_meaning.specs.declared.clauses.Summand.{Summand}

-- the coefficient of a place, 0 where it isn't in the sum
abbrev pub coefficient_of : List Summand → ℕ → ℤ
coefficient_of [] i = pos 0
coefficient_of (p ∷ ps) i = if nat_eq p.term i then p.coefficient else coefficient_of ps i

-- ascending places from one bound on and below another, each with a coefficient that isn't 0
abbrev pub IsSumWithin : ℕ → ℕ → List Summand → Type 0
IsSumWithin low high [] = Unit {0}
IsSumWithin low high (p ∷ ps) = (low ≤ p.term) × (p.term < high) × (p.coefficient ≢ pos 0) × IsSumWithin (p.term + 1) high ps

-- ascending places below a bound, each with a coefficient that isn't 0
abbrev pub IsSum : ℕ → List Summand → Type 0
IsSum bound ps = IsSumWithin 0 bound ps

-- a number, or its negation
abbrev pub signed : Bool → ℤ → ℤ
signed true z = negsuc 0 *ℤ z
signed false z = z
