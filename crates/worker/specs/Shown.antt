-- What a search asks of its first atoms, and what a worker shows of the units that it has spent.
use Rattle.std.specs.Prelude.{◌⊎◌, ℕ, ℤ, ◌<◌, Bool, ◌&&◌, nat_lt, List, map, All, Contains}
use Rattle.literals.specs.Signed.{Signed}
use Rattle.smt_meaning.specs.declared.clauses.Atom.{Atom}
use Rattle.smt_meaning.specs.declared.clauses.Clause.{Clause}
use Rattle.smt_meaning.specs.declared.reports.Unit.{Unit as ShownUnit}
use Rattle.smt_meaning.specs.declared.reports.Unit.TheVariants as Shown
use Rattle.smt_meaning.specs.declared.reports.Cause.TheVariants.{Units}
use Rattle.smt_meaning.specs.Stack.{depth}
use Rattle.smt_meaning.specs.StackCommand.{Stack}
use Rattle.smt_meaning.specs.Atoms.{stack_atoms}
use Rattle.smt_meaning.specs.Report.{Shows, is_unlimited}
use Rattle.search_port.specs.State.{TheoryState, atom_at}
use Rattle.search_port.specs.Showing.{IsShowing}
use Rattle.search_port.specs.declared.budget.Spent.{Spent}
use Rattle.search_port.specs.declared.budget.Spent.TheVariants.{Learnt, Numbered, Pivot}
use Rattle.search_port.specs.declared.shown.Showing.{Showing}
use Rattle.check_atoms.specs.Laws.{IsSameOfNoInts}
use Rattle.first_clauses.specs.PartClausesFirst.{written_literal}

-- each atom of the assertions has a number, but for equalities of terms of a sort that isn't Int
abbrev pub HasStackAtoms : Stack → List Atom → Type 0
HasStackAtoms s table = (a : Atom) → Contains (stack_atoms s.trees s.frames) a → Contains table a ⊎ IsSameOfNoInts s a

-- ---- units with their atoms written out

abbrev pub clause_of : List Atom → ℕ → List Signed → Clause
clause_of table level ls = record { literals = map (written_literal table) ls; level = level }

abbrev pub unit_of : List Atom → ℕ → Spent → ShownUnit
unit_of table level (Learnt c) = Shown.Learnt (clause_of table level c.literals)
unit_of table level (Numbered n) = Shown.Numbered (atom_at table n)
unit_of table level (Pivot l) = Shown.Pivot l

-- whether the worker of this number may forget what it learns: under a limit none may, and the first one never
abbrev pub may_forget : ℤ → ℕ → Bool
may_forget limit w = is_unlimited limit && nat_lt 0 w

-- it speaks of so many numbers
abbrev pub IsOfNumbers : ℕ → Spent → Type 0
IsOfNumbers n (Learnt c) = All (λ (l : Signed). l.atom < n) c.literals
IsOfNumbers n (Numbered k) = k < n
IsOfNumbers n (Pivot l) = Unit {0}

-- with what a theory in this state shows, a worker shows that these are all units that it may spend, their clauses at the level of the whole stack
abbrev pub ShowsUnits : Stack → ℤ → TheoryState → List Spent → Type 0
ShowsUnits s limit t us =
    (x : Showing) → IsShowing t x → Shows s.trees s.frames limit x.branches (Units (map (unit_of t.reading.table (depth s.frames)) us))
