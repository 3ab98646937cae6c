-- How the grids of pivots that follow one another hang together: from the grid that a pivot left lead to that of the next one bounds and variables that are taken in, and moves.
use Rattle.std.specs.Prelude.{◌≡◌, ℕ, ◌<◌, ◌≤◌, ℤ, ◌≤ℤ◌, Bool, List, [], ◌∷◌, ◌++◌, map, length, Option, Some, None}
use Rattle.fraction128.specs.declared.Summand.{Summand}
use Rattle.fraction128.specs.declared.TableRow.{TableRow}
use Rattle.fraction128.specs.declared.Column.{Column}
use Rattle.fraction128.specs.declared.Grid.{Grid}
use Rattle.fraction128.specs.declared.Line.{Line}
use Rattle.fraction128.specs.Grid.{move, pivot, after, next_step, column_at}
use Rattle.fraction128.specs.Lines.{Bounding, IsPivotIn, exchanged}

-- ---- bounds

-- a lower bound that stood stands, or a greater one
abbrev pub StaysOrRises : Option ℤ → Option ℤ → Type 0
StaysOrRises None new = Unit {0}
StaysOrRises (Some k) (Some j) = k ≤ℤ j
StaysOrRises (Some k) None = ⊥

-- an upper bound that stood stands, or a lesser one
abbrev pub StaysOrFalls : Option ℤ → Option ℤ → Type 0
StaysOrFalls None new = Unit {0}
StaysOrFalls (Some k) (Some j) = j ≤ℤ k
StaysOrFalls (Some k) None = ⊥

-- the same variable with the same value, and no bound of it is loosened
pub record IsTightened (c d : Column) : Type 0 where
  pub sum : d.sum ≡ c.sum
  pub value : d.value ≡ c.value
  pub lower : StaysOrRises c.lower d.lower
  pub upper : StaysOrFalls c.upper d.upper

-- bounds and variables are taken in: all that there was keeps its value and its row, no bound is loosened, and variables may come after
pub record TakesIn (g h : Grid) : Type 0 where
  pub count : length g.columns ≤ length h.columns
  pub each : (i : ℕ) → i < length g.columns → IsTightened (column_at g i) (column_at h i)
  pub more : List TableRow
  pub rows : h.rows ≡ g.rows ++ more
  pub pending : h.pending ≡ g.pending

-- ---- from grid to grid

-- bounds and variables that are taken in, and moves that are next steps, lead from the first grid to this one
pub data ComesFrom (g : Grid) : Grid → Type 0 where
  begins : ComesFrom g g
  taken : (h k : Grid) → ComesFrom g h → TakesIn h k → ComesFrom g k
  moved : (h : Grid) (i : ℕ) (k : ℤ) → ComesFrom g h → next_step h ≡ Some (move i k) → ComesFrom g (after h (move i k))

-- what a pivot leaves
abbrev pub left_by : {sums : List (List Summand)} {B : Bounding} {is : ℕ → Bool} {l : Line} → IsPivotIn sums B is l → Grid
left_by p = after p.grid (pivot p.leaves p.number p.enters)

-- from one grid to another, where both are known
abbrev pub GoesOn : Option Grid → Option Grid → Type 0
GoesOn None h = Unit {0}
GoesOn (Some g) None = Unit {0}
GoesOn (Some g) (Some h) = ComesFrom g h

-- the pivots of these lines, in order, with what is taken in and moved between them, lead from one grid to another; nothing is said of a grid that isn't known
abbrev pub PivotsLead : List (List Summand) → Bounding → (ℕ → Bool) → Option Grid → List Line → Option Grid → Type 0
PivotsLead sums B is here [] there = GoesOn here there
PivotsLead sums B is here (l ∷ ls) there = (p : IsPivotIn sums B is l) × GoesOn here (Some p.grid) × PivotsLead sums B (exchanged l is) (Some (left_by p)) ls there

-- ---- grids without their bounds

abbrev pub unbounded_column : Column → Column
unbounded_column c = record { sum = c.sum; lower = None; upper = None; value = c.value }

-- the variables with their values, and the rows
abbrev pub unbounded : Grid → Grid
unbounded g = record { columns = map unbounded_column g.columns; rows = g.rows; pending = g.pending }
