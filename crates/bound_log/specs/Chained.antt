-- The bounds of a state's grid, and those that the log says.
use Rattle.std.specs.Prelude.{◌≡◌, ℕ, ◌<◌, List, length}
use Rattle.fraction128.specs.declared.Grid.{Grid}
use Rattle.fraction128.specs.Grid.{column_at}
use Rattle.fraction128.specs.Lines.{IsBoundedBy}
use Rattle.fraction128.specs.Chain.{TakesIn, unbounded}
use Rattle.smt_meaning.specs.declared.clauses.Atom.{Atom}
use Rattle.search_port.specs.Pivots.{IsSaid}
use Rattle.simplex.specs.State.{KeepsValues}
use Rattle.bound_log.specs.Told.{State, IsState}
use Rattle.bound_log.specs.Atoms.{Knows}
use Rattle.bound_log.specs.Columns.{HasColumnsOf}
use Rattle.bound_log.specs.Pending.{plain_grid}

-- each bound that stands is said by a literal of the log
abbrev pub BoundsAreOfLog : Type 0
BoundsAreOfLog = (table : List Atom) (s : State) → IsState s → Knows table s → (i : ℕ) → i < length s.bounds.columns → IsBoundedBy (IsSaid table s.log) (column_at (plain_grid s) i)

-- what the log says stands at least as tightly in the state's grid as in any grid with the same variables, values and rows whose bounds it says
abbrev pub LogIsTakenIn : Type 0
LogIsTakenIn =
    (table other : List Atom) (s : State) (g : Grid) → IsState s → Knows table s → HasColumnsOf other s → unbounded g ≡ unbounded (plain_grid s)
    → ((i : ℕ) → i < length g.columns → IsBoundedBy (IsSaid table s.log) (column_at g i)) → TakesIn g (plain_grid s)

-- where rows and values stay, all of the grid but its bounds does
abbrev pub ValuesStay : Type 0
ValuesStay = (old new : State) → new.bounds.table ≡ old.bounds.table → KeepsValues old.bounds.columns new.bounds.columns → unbounded (plain_grid new) ≡ unbounded (plain_grid old)
