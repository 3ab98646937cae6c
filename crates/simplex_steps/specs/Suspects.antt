-- The variables that may be outside their bounds.
use Rattle.std.specs.Prelude.{◌≡◌, ℕ, ◌<◌, ◌≤◌, leb, ◌⊎◌, Bool, true, false, pos, List, [], ◌∷◌, length, slice_index_or, Contains, Option, Some, None, if◌then◌else◌}
use Rattle.fraction128.specs.declared.Column.{Column}
use Rattle.fraction128.specs.Number.{whole}
use Rattle.fraction128.specs.Grid.{WithinBounds, is_crossed}
use Rattle.simplex_steps.specs.declared.moves.Moved.{Moved}
use Rattle.simplex_steps.specs.State.{column_in}

-- of so many variables those listed
pub record Listing : Type 0 where
  pub count : ℕ
  pub variables : List ℕ

-- a value within bounds that don't cross
pub record IsCalm (c : Column) : Type 0 where
  pub within : WithinBounds c
  pub uncrossed : is_crossed c ≡ false

-- every variable that isn't listed is within its bounds, which don't cross
pub record Covers (s : Listing) (cs : List Column) : Type 0 where
  pub room : length cs ≤ s.count
  pub known : (i : ℕ) → Contains s.variables i → i < length cs
  pub others : (i : ℕ) → i < length cs → Contains s.variables i ⊎ IsCalm (column_in cs i)

-- ---- changes of the list

-- each variable that is flagged is listed
abbrev pub AreFlagged : List Bool → List ℕ → Type 0
AreFlagged flags is = (i : ℕ) → slice_index_or flags i false ≡ true → Contains is i

-- the second list has the variable i, all of the first one, and no others
pub record Adds (i : ℕ) (s r : Listing) : Type 0 where
  pub count : r.count ≡ s.count
  pub has : Contains r.variables i
  pub keeps : (j : ℕ) → Contains s.variables j → Contains r.variables j
  pub only : (j : ℕ) → Contains r.variables j → Contains s.variables j ⊎ (i ≡ j)

-- the second list is shorter, has nothing new, and all but the variable i
pub record Removes (i : ℕ) (s r : Listing) : Type 0 where
  pub count : r.count ≡ s.count
  pub fewer : length r.variables < length s.variables
  pub keeps : (j : ℕ) → Contains s.variables j → (i ≡ j) ⊎ Contains r.variables j
  pub only : (j : ℕ) → Contains r.variables j → Contains s.variables j

-- two variables are listed, and those whose values change
pub record AreListed (is : List ℕ) (ms : List Moved) (one other : ℕ) : Type 0 where
  pub first : Contains is one
  pub second : Contains is other
  pub each : (m : Moved) → Contains ms m → Contains is m.variable

-- of two variables the lesser, where the new one is chosen
abbrev pub lesser : Option ℕ → ℕ → Bool → Option ℕ
lesser found i false = found
lesser None i true = Some i
lesser (Some best) i true = if leb best i then Some best else Some i

-- ---- examples

-- the value 0, for which the lower bound is 1
abbrev pub too_low : Column
too_low = record { sum = []; lower = Some (pos 1); upper = None; value = whole (pos 0) }

-- the list with this one variable covers it; the empty list doesn't
pub record SuspectsAreCovered : Type 0 where
  pub listed : Covers (record { count = 1; variables = 0 ∷ [] }) (too_low ∷ [])
  pub unlisted : Covers (record { count = 1; variables = [] }) (too_low ∷ []) → ⊥
