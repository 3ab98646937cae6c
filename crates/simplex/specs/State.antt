-- The state of the simplex method: rows, columns, and the bounds that were set.
use Rattle.std.specs.Prelude.{◌≡◌, ℕ, ◌+◌, ◌<◌, ◌≤◌, ◌⊎◌, Bool, ◌&&◌, List, [], ◌∷◌, ◌++◌, map, length, slice_index_or, slice_set, ℤ, pos, Option, Some, None}
use Rattle.fraction128.specs.declared.ratio.Ratio.{Ratio}
use Rattle.fraction128.specs.Whole.{InRange}
use Rattle.fraction128.specs.Number.{whole}
use Rattle.fraction128.specs.declared.Summand.{Summand}
use Rattle.fraction128.specs.declared.Column.{Column}
use Rattle.fraction128.specs.declared.Bound.{Bound}
use Rattle.fraction128.specs.declared.Side.TheVariants.{Lower, Upper}
use Rattle.fraction128.specs.declared.TableRow.{TableRow}
use Rattle.fraction128.specs.Lines.{NextFails}
use Rattle.fraction128.specs.Grid.{next_step, entries_value, entries_value_fits, no_coefficients}
use Rattle.tableau.specs.declared.sum.Part.{Part}
use Rattle.tableau.specs.Written.{parts_row, parts_fit}
use Rattle.tableau.specs.Table.{Table, IsTable}
use Rattle.simplex.specs.Sums.{IsMeant}
use Rattle.simplex.specs.declared.trail.Set.{Set}
use Rattle.simplex.specs.declared.trail.Held.{Held}
use Rattle.simplex.specs.Trail.{Trail, tightest, number_of, set_at}
use Rattle.simplex_steps.specs.State.{grid_of, column_in, values, IsSolution}
use Rattle.simplex_steps.specs.Conflict.{IsConflict}
use Rattle.simplex_steps.specs.Suspects.{Listing, Covers}
use Rattle.simplex_steps.specs.Run.{AreWithin, NextPivotFits}
use Rattle.simplex_steps.specs.declared.run.Outcome.{Outcome}
use Rattle.simplex_steps.specs.declared.run.Outcome.TheVariants.{Fits as AllFit, Conflict as Clash, Range as NoFit, UnitsSpent as Spent, Memory as NoMemory}
use Rattle.simplex.specs.declared.state.Verdict.{Verdict}
use Rattle.simplex.specs.declared.state.Verdict.TheVariants.{Fits, Conflict, Range, UnitsSpent, Memory}

pub record State : Type 0 where
  pub table : Table
  pub columns : List Column
  pub bounds : List Set

-- a column has the tightest of the bounds that were set
pub record HasBounds (bs : List Set) (i : ℕ) (c : Column) : Type 0 where
  pub lower : c.lower ≡ number_of (tightest bs i Lower)
  pub upper : c.upper ≡ number_of (tightest bs i Upper)

-- the bounds set are of these variables, and their numbers lie in the range
abbrev pub AreKnown : ℕ → List Set → Type 0
AreKnown n bs = (k : ℕ) → k < length bs → ((set_at bs k).variable < n) × InRange (set_at bs k).number

-- the values meet the rows, each column has the tightest of the bounds set, and the solutions of the rows are exactly the valuations that give each column its sum's value
pub record IsState (s : State) : Type 0 where
  pub table : IsTable s.table
  pub solution : IsSolution s.table s.columns
  pub bounded : (i : ℕ) → i < length s.columns → HasBounds s.bounds i (column_in s.columns i)
  pub known : AreKnown (length s.columns) s.bounds
  pub meant : IsMeant s.table.rows s.columns

-- the column's bounds leave this number alone
abbrev pub FixedAt : Column → ℤ → Type 0
FixedAt c k = (c.lower ≡ Some k) × (c.upper ≡ Some k)

-- two columns have the same sum and value
pub record SameValues (c d : Column) : Type 0 where
  pub sum : c.sum ≡ d.sum
  pub value : c.value ≡ d.value

-- all columns keep their sums and values
pub record KeepsValues (cs ds : List Column) : Type 0 where
  pub count : length ds ≡ length cs
  pub each : (i : ℕ) → SameValues (column_in ds i) (column_in cs i)

-- ---- conflicts by tags

abbrev pub tag_or : Option Held → ℕ
tag_or (Some h) = h.tag
tag_or None = 0

-- the tag of the tightest bound on a bound's variable and side
abbrev pub tag_in : List Set → Bound → ℕ
tag_in bs b = tag_or (tightest bs b.variable b.side)

-- the tags are those of bounds that no solution of the rows meets
pub record IsTagged (s : State) (tags : List ℕ) : Type 0 where
  pub bounds : List Bound
  pub conflict : IsConflict s.table.rows s.columns bounds
  pub exact : tags ≡ map (tag_in s.bounds) bounds

-- what a verdict says of the state at the end
abbrev pub Judges : State → Verdict → Type 0
Judges s Fits = (next_step (grid_of s.table s.columns) ≡ None) × AreWithin s.columns
Judges s (Conflict tags) = (next_step (grid_of s.table s.columns) ≡ None) × IsTagged s tags.items
Judges s (Range number) = NextFails (grid_of s.table s.columns)
Judges s UnitsSpent = NextPivotFits (grid_of s.table s.columns)
Judges s Memory = Unit {0}

abbrev pub SpendsRoom : ℕ → ℕ → Verdict → Type 0
SpendsRoom room made UnitsSpent = made ≡ room
SpendsRoom room made Fits = Unit {0}
SpendsRoom room made (Conflict tags) = Unit {0}
SpendsRoom room made (Range number) = Unit {0}
SpendsRoom room made Memory = Unit {0}

-- ---- new variables

abbrev pub new_column : List Summand → Ratio → Column
new_column sum x = record { sum = sum; lower = None; upper = None; value = x }

abbrev pub with_row : Table → TableRow → Table
with_row t r = record { count = t.count + 1; rows = t.rows ++ r ∷ [] }

-- the value of a row, its entries added up in order
abbrev pub row_value_of : List Column → TableRow → Ratio
row_value_of cs r = entries_value (values cs) (whole (pos 0)) r.entries

-- writing a new row, and adding up its value, stay in the range
abbrev pub row_fits : State → List Part → Bool
row_fits s ps =
    parts_fit s.table.count s.table.rows no_coefficients ps
    && entries_value_fits (values s.columns) (whole (pos 0)) (parts_row s.table.count s.table.rows ps).entries

-- ---- the parts of the state

-- a variable with the tightest bounds of those set
abbrev pub refreshed : List Set → List Column → ℕ → List Column
refreshed bs cs i =
    slice_set cs i (record { sum = (column_in cs i).sum; lower = number_of (tightest bs i Lower); upper = number_of (tightest bs i Upper); value = (column_in cs i).value })

pub record IsCore (t : Table) (cs : List Column) (trail : Trail) : Type 0 where
  pub solution : IsSolution t cs
  pub count : length cs ≤ trail.count
  pub bounded : (i : ℕ) → i < length cs → HasBounds trail.bounds i (column_in cs i)
  pub known : AreKnown (length cs) trail.bounds
  pub meant : IsMeant t.rows cs

-- and what isn't a suspect is within its bounds
pub record IsWatched (t : Table) (cs : List Column) (trail : Trail) (s : Listing) : Type 0 where
  pub core : IsCore t cs trail
  pub covers : Covers s cs

-- the bounds of a conflict are of known variables
abbrev pub KnownBounds : ℕ → Outcome → Type 0
KnownBounds n (Clash bounds) = (k : ℕ) (d : Bound) → k < length bounds.items → (slice_index_or bounds.items k d).variable < n
KnownBounds n AllFit = Unit {0}
KnownBounds n (NoFit number) = Unit {0}
KnownBounds n Spent = Unit {0}
KnownBounds n NoMemory = Unit {0}

-- the verdict is a conflict with the tags of the bounds
abbrev pub IsConflictOf : List Set → List Bound → Verdict → Type 0
IsConflictOf bs bounds (Conflict tags) = tags.items ≡ map (tag_in bs) bounds
IsConflictOf bs bounds Fits = ⊥
IsConflictOf bs bounds (Range number) = ⊥
IsConflictOf bs bounds UnitsSpent = ⊥
IsConflictOf bs bounds Memory = ⊥

-- a verdict is the outcome with tags in place of bounds, or memory is wanting
abbrev pub IsVerdict : List Set → Outcome → Verdict → Type 0
IsVerdict bs (Clash bounds) v = (v ≡ Memory) ⊎ IsConflictOf bs bounds.items v
IsVerdict bs AllFit v = v ≡ Fits
IsVerdict bs (NoFit number) v = v ≡ Range number
IsVerdict bs Spent v = v ≡ UnitsSpent
IsVerdict bs NoMemory v = v ≡ Memory
