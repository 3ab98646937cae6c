-- The clauses that tie comparisons and equalities of Ints to bounds, over numbered atoms.
use Rattle.std.specs.Prelude.{ℕ, Bool, true, List, [], ◌∷◌}
use Rattle.literals.specs.Signed.{Signed}
use Rattle.equality_clauses.specs.Once.{once}
use Rattle.equality_clauses.specs.Ties.{literal, joined}

-- t is true exactly where each of the bounds is
abbrev pub order_clauses : ℕ → List ℕ → List (List Signed)
order_clauses t bounds = joined t true (once bounds)

-- an equality is true exactly where neither side is above the other
abbrev pub equal_clauses : ℕ → ℕ → ℕ → List (List Signed)
equal_clauses same below above = order_clauses same (below ∷ above ∷ [])

-- the bound has this truth value
abbrev pub constant_clauses : ℕ → Bool → List (List Signed)
constant_clauses number holds = (literal holds number ∷ []) ∷ []
