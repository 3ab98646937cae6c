-- Where the rows of basic variables stand.
use Rattle.std.specs.Prelude.{◌≡◌, ℕ, ◌+◌, ◌<◌, ◌≤◌, List, length, slice_index_or, Option, Some, None}
use Rattle.tableau.specs.declared.rows.Row.{Row}
use Rattle.tableau.specs.Table.{IsTableau}

-- the place of a variable; none past the end
abbrev pub placed : List (Option ℕ) → ℕ → Option ℕ
placed places i = slice_index_or places i None

-- of n variables: those that have a place are the basic ones, and it is that of their row; the variables of the rows are among those listed
pub record IsPlaced (n : ℕ) (rows : List Row) (places : List (Option ℕ)) : Type 0 where
  pub within : length places ≤ n + 1
  pub listed : IsTableau (length places) rows
  pub some : (i k : ℕ) → placed places i ≡ Some k → (k < length rows) × ((d : Row) → (slice_index_or rows k d).basic ≡ i)
  pub each : (k : ℕ) (d : Row) → k < length rows → placed places (slice_index_or rows k d).basic ≡ Some k
