-- Pivots as units of a check of the bounds.
use Rattle.std.specs.Prelude.{◌≡◌, ℕ, ◌≤◌, Bool, true, false, List, [], ◌++◌, map, take, length, Contains, Some}
use Rattle.fraction128.specs.declared.Line.{Line}
use Rattle.fraction128.specs.Lines.{HasBasis, basis_along}
use Rattle.fraction128.specs.Chain.{PivotsLead}
use Rattle.smt_meaning.specs.declared.clauses.Atom.{Atom}
use Rattle.smt_meaning.specs.CheckAtoms.{IsBoundOf}
use Rattle.simplex_steps.specs.State.{KeepsBounds}
use Rattle.search_port.specs.Spending.{Spending}
use Rattle.search_port.specs.declared.budget.Spent.{Spent as SpentUnit}
use Rattle.search_port.specs.declared.budget.Spent.TheVariants.{Pivot}
use Rattle.bound_log.specs.Told.{State, column_sums}
use Rattle.bound_log.specs.Pending.{plain_grid}
use Rattle.theory_combine.specs.declared.held.Met.{Met}
use Rattle.theory_combine.specs.declared.held.Met.TheVariants.{Fits, Conflict, Past, Spent, Ended}
use Rattle.theory_combine.specs.declared.held.Meeting.{Meeting}

-- where lines are kept, those of at most so many pivots over these atoms, which lead from the old bounds' grid to that of the new ones, and of so many where there was no room for another; bounds stay
pub record ArePivotsOf (old new : State) (table : List Atom) (keep : Bool) (room : ℕ) (m : Meeting) : Type 0 where
  pub pivots : keep ≡ true → (is : ℕ → Bool) → HasBasis is (plain_grid old) → PivotsLead (column_sums old) (IsBoundOf (Contains table)) is (Some (plain_grid old)) m.lines.items (Some (plain_grid new))
  pub basis : keep ≡ true → (is : ℕ → Bool) → HasBasis is (plain_grid old) → HasBasis (basis_along is m.lines.items) (plain_grid new)
  pub bounds : KeepsBounds old.bounds.columns new.bounds.columns
  pub within : length m.lines.items ≤ room
  pub none : keep ≡ false → m.lines.items ≡ []
  pub spent : keep ≡ true → m.met ≡ Spent → length m.lines.items ≡ room

-- the units of these lines
abbrev pub pivot_units : List Line → List SpentUnit
pivot_units ls = map Pivot ls

-- the pivots of the first so many lines are spent
pub record SpendsPivots (ls : List Line) (b c : Spending) : Type 0 where
  pub count : ℕ
  pub is : c ≡ record b { units = b.units ++ pivot_units (take count ls) }

-- where there was no room for another pivot, all units are spent
abbrev pub SpendsAll : Spending → Met → Type 0
SpendsAll b Spent = length b.units ≡ b.bound
SpendsAll b Fits = Unit {0}
SpendsAll b (Conflict c) = Unit {0}
SpendsAll b (Past g) = Unit {0}
SpendsAll b Ended = Unit {0}
