-- Clauses as ascending lists of codes.
use Rattle.std.specs.Prelude.{ℕ, List, map, All, Contains}
use Rattle.proof_terms.specs.Kept.{AreAscending}

-- each row is a clause
abbrev pub clauses_in : List (Unit {0} × List ℕ) → List (List ℕ)
clauses_in rows = map (λ r. r.1) rows

abbrev pub AllAscend : List (Unit {0} × List ℕ) → Type 0
AllAscend rows = All AreAscending (clauses_in rows)

-- the same codes, each once
pub record IsSetOf (codes set : List ℕ) : Type 0 where
  pub ascending : AreAscending set
  pub keeps : (c : ℕ) → Contains codes c → Contains set c
  pub adds_none : (c : ℕ) → Contains set c → Contains codes c
