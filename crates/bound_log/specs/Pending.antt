-- Grids with a bound that is to be taken in next.
use Rattle.std.specs.Prelude.{◌≡◌, List, ℤ, Bool, Some}
use Rattle.fraction128.specs.declared.Grid.{Grid}
use Rattle.fraction128.specs.declared.Pending.{Pending}
use Rattle.fraction128.specs.Lines.{NextFails}
use Rattle.smt_meaning.specs.declared.clauses.Summand.{Summand}
use Rattle.smt_meaning.specs.declared.clauses.Atom.{Atom}
use Rattle.smt_meaning.specs.declared.clauses.Atom.TheVariants.{AtMost}
use Rattle.smt_meaning.specs.CheckAtoms.{told}
use Rattle.literals.specs.Signed.{Signed}
use Rattle.search_port.specs.State.{atom_at}
use Rattle.simplex_steps.specs.State.{grid_of}
use Rattle.bound_log.specs.Told.{State}
use Rattle.bound_log.specs.Atoms.{Knows}

-- the rows and the variables of the state
abbrev pub plain_grid : State → Grid
plain_grid s = grid_of s.bounds.table s.bounds.columns

abbrev pub with_pending : Grid → Pending → Grid
with_pending g p = record { columns = g.columns; rows = g.rows; pending = Some p }

-- to take in that the sum is at most the number, or that it isn't, is the next step where it is pending, and leaves the range
abbrev pub FailsToTake : State → List Summand → ℤ → Bool → Type 0
FailsToTake s sum number holds = NextFails (with_pending (plain_grid s) (told sum number holds))

-- to take in what the literal says leaves the range
abbrev pub FailsToTell : State → Signed → Type 0
FailsToTell s l = (table : List Atom) (sum : List Summand) (number : ℤ) → Knows table s → atom_at table l.atom ≡ AtMost sum number → FailsToTake s sum number l.positive
