-- What is held of the literals told.
use Rattle.std.specs.Prelude.{◌≡◌, List, length}
use Rattle.smt_meaning.specs.declared.clauses.Atom.{Atom}
use Rattle.smt_meaning.specs.StackCommand.{Stack}
use Rattle.search_port.specs.State.{TheoryState}
use Rattle.search_port.specs.Calls.{IsConflict}
use Rattle.closure_log.specs.Told.{IsTold}
use Rattle.closure_log.specs.Places.{ArePlaces}
use Rattle.bound_log.specs.Atoms.{Knows}
use Rattle.simplex_steps.specs.Run.{AreWithin}
use Rattle.bound_log.specs.Told.{State, column_sums}
use Rattle.bound_log.specs.Reporting.{IsClause}
use Rattle.bound_log.specs.Values.{MeetsAll}
use Rattle.theory_combine.specs.declared.held.Held.{Held}
use Rattle.theory_combine.specs.declared.held.Met.{Met}
use Rattle.theory_combine.specs.declared.held.Met.TheVariants.{Fits, Conflict, Past, Spent, Ended}
use Rattle.theory_combine.specs.Columns.{HasKnownColumns}
use Rattle.theory_combine.specs.Errors.{IsPastOver}

-- the closure and the bounds are told the same literals of these atoms
pub record IsHeld (s : Stack) (table : List Atom) (h : Held) : Type 0 where
  pub told : IsTold s table h.closure.congruence h.closure.log.items h.closure.starts.items
  pub knows : Knows table h.bounds
  pub same : h.bounds.log ≡ h.closure.log.items
  pub size : length h.scan.places.items ≡ length table
  pub told_at : ArePlaces h.closure.log.items h.scan.places.items
  pub columns : HasKnownColumns s table h.bounds

-- the values lie within the bounds, and those of the terms meet all bounds told
abbrev pub AllFit : State → Type 0
AllFit b = AreWithin b.bounds.columns × MeetsAll b

-- where all bounds are met the values fit, a clause that the bounds break is a conflict, and a grid that is past the range is one of the table
abbrev pub IsMet : State → TheoryState → Met → Type 0
IsMet b t Fits = AllFit b
IsMet b t (Conflict c) = IsConflict t c
IsMet b t (Past g) = IsPastOver (column_sums b) t.reading.table g
IsMet b t Spent = Unit {0}
IsMet b t Ended = Unit {0}

-- the same of what the bounds have, for each table that they know
abbrev pub IsMetBy : State → List Atom → Met → Type 0
IsMetBy b table Fits = AllFit b
IsMetBy b table (Conflict c) = IsClause b c
IsMetBy b table (Past g) = IsPastOver (column_sums b) table g
IsMetBy b table Spent = Unit {0}
IsMetBy b table Ended = Unit {0}
