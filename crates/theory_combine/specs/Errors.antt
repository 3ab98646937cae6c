-- Bounds that aren't known or told, and the grids that show why.
use Rattle.std.specs.Prelude.{◌≡◌, ◌≢◌, ◌⊎◌, List, [], ◌∷◌, ◌++◌, All, AllPairs, Contains, Option, Some, None}
use Rattle.fraction128.specs.declared.Summand.{Summand as GridSummand}
use Rattle.fraction128.specs.declared.Grid.{Grid}
use Rattle.fraction128.specs.declared.Line.{Line}
use Rattle.fraction128.specs.declared.Pending.{Pending}
use Rattle.fraction128.specs.Lines.{IsSoundGrid, NextFails}
use Rattle.smt_meaning.specs.declared.clauses.Atom.{Atom}
use Rattle.smt_meaning.specs.declared.reports.RangeSeen.{RangeSeen}
use Rattle.smt_meaning.specs.declared.reports.RangeSeen.TheVariants.{Step}
use Rattle.smt_meaning.specs.StackCommand.{Stack}
use Rattle.smt_meaning.specs.CheckAtoms.{IsBoundOf}
use Rattle.smt_meaning.specs.Ranges.{IsOnAtom}
use Rattle.smt_meaning.specs.Report.{IsPastRange}
use Rattle.smt_laws.specs.Flat.{flat}
use Rattle.bound_log.specs.Told.{State, column_sums}
use Rattle.bound_log.specs.Atoms.{Knows}
use Rattle.bound_log.specs.Columns.{IsLeafOf, IsSumOf}
use Rattle.theory_combine.specs.declared.errors.BoundError.{BoundError}
use Rattle.theory_combine.specs.declared.errors.BoundError.TheVariants.{Memory, Range}
use Rattle.theory_combine.specs.Shown.{IsLeft}

-- a grid of variables of these sums over the atoms of a table, whose next step leaves the range: a bound that waits is on an atom of the table
pub record IsPastOver (sums : List (List GridSummand)) (table : List Atom) (g : Grid) : Type 0 where
  pub sound : IsSoundGrid sums (IsBoundOf (Contains table)) g
  pub pending : (p : Pending) → g.pending ≡ Some p → IsOnAtom (Contains table) p
  pub next : NextFails g

-- an error shows such a grid, or that memory is wanting
abbrev pub IsErrorOver : List (List GridSummand) → List Atom → BoundError → Type 0
IsErrorOver sums table Memory = Unit {0}
IsErrorOver sums table (Range g) = IsPastOver sums table g

-- where an atom can't be made known to bounds, the grid is of the variables that there are then, and over that atom too
abbrev pub IsErrorAt : State → State → Atom → BoundError → Type 0
IsErrorAt old new a e = (table : List Atom) → Knows table old → IsErrorOver (column_sums new) (table ++ a ∷ []) e

-- the sum of a variable is that of a term of an atom, or of the sum of an atom
abbrev pub IsSumIn : List Atom → List GridSummand → Type 0
IsSumIn table ps = IsLeafOf table ps ⊎ IsSumOf table ps

-- a grid of variables of a table's atoms
pub record IsPastIn (table : List Atom) (g : Grid) : Type 0 where
  pub sums : List (List GridSummand)
  pub apart : AllPairs (λ (ps qs : List GridSummand). ps ≢ qs) sums
  pub columns : All (IsSumIn table) sums
  pub past : IsPastOver sums table g

-- where bounds of a table's atoms can't be made
abbrev pub IsErrorIn : List Atom → BoundError → Type 0
IsErrorIn table Memory = Unit {0}
IsErrorIn table (Range g) = IsPastIn table g

-- what an error shows to leave the range
abbrev pub seen_of : BoundError → Option RangeSeen
seen_of Memory = None
seen_of (Range g) = Some (Step g)

-- with variables of these sums and these branches it does
abbrev pub IsErrorLeft : Stack → List (List GridSummand) → List Line → BoundError → Type 0
IsErrorLeft s sums rows Memory = Unit {0}
IsErrorLeft s sums rows (Range g) = IsLeft s sums rows (Step g)

-- before any branch it does
abbrev pub IsErrorSeen : Stack → BoundError → Type 0
IsErrorSeen s Memory = Unit {0}
IsErrorSeen s (Range g) = IsPastRange s.trees (flat s.frames) [] (Step g)
