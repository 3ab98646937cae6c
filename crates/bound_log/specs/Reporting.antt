-- What a check reports.
use Rattle.std.specs.Prelude.{◌≡◌, ℕ, List}
use Rattle.literals.specs.Signed.{Signed}
use Rattle.smt_meaning.specs.Declaration.{Declaration}
use Rattle.search_port.specs.State.{TheoryState, AllFalseIn}
use Rattle.search_port.specs.Calls.{IsConflict}
use Rattle.search_port.specs.declared.budget.Lemma.{Lemma}
use Rattle.fraction128.specs.Lines.{NextFails}
use Rattle.congruence.specs.Reasons.{NoneTwice}
use Rattle.congruence.specs.Clauses.{IsToldAtOneLevel, IsFalseClause}
use Rattle.simplex_steps.specs.State.{grid_of}
use Rattle.simplex_steps.specs.Run.{AreWithin, NextPivotFits}
use Rattle.sum_bounds.specs.declared.finding.Finding.{Finding}
use Rattle.sum_bounds.specs.declared.finding.Finding.TheVariants.{Fits as AllFit, Conflict as Clash, Range as NoFit, UnitsSpent as Spent, Memory as NoMemory}
use Rattle.bound_log.specs.declared.report.Report.{Report}
use Rattle.bound_log.specs.declared.report.Report.TheVariants.{Fits, Conflict, Range, UnitsSpent, Memory}
use Rattle.bound_log.specs.Told.{State}
use Rattle.bound_log.specs.Atoms.{Knows}
use Rattle.bound_log.specs.Values.{MeetsAll}

-- a clause at level 0 with no literal twice, false in the log, and a conflict of each theory's state with that log whose table has the atoms that are known
pub record IsClause (s : State) (c : Lemma) : Type 0 where
  pub level : c.level ≡ 0
  pub once : NoneTwice c.literals
  pub is_false : AllFalseIn s.log c.literals
  pub conflict : (ds : List Declaration) (t : TheoryState) → Knows t.reading.table s → t.log ≡ s.log → IsToldAtOneLevel ds t → IsConflict t c

-- what a report says of the state at the end
abbrev pub Judges : State → Report → Type 0
Judges s Fits = AreWithin s.bounds.columns × MeetsAll s
Judges s (Conflict c) = IsClause s c
Judges s (Range number) = NextFails (grid_of s.bounds.table s.bounds.columns)
Judges s UnitsSpent = NextPivotFits (grid_of s.bounds.table s.bounds.columns)
Judges s Memory = Unit {0}

abbrev pub SpendsRoom : ℕ → ℕ → Report → Type 0
SpendsRoom room made UnitsSpent = made ≡ room
SpendsRoom room made Fits = Unit {0}
SpendsRoom room made (Conflict c) = Unit {0}
SpendsRoom room made (Range number) = Unit {0}
SpendsRoom room made Memory = Unit {0}

-- ---- how it is made

abbrev pub HasNoneTwice : Finding → Type 0
HasNoneTwice AllFit = Unit {0}
HasNoneTwice (Clash ls) = NoneTwice ls.items
HasNoneTwice (NoFit number) = Unit {0}
HasNoneTwice Spent = Unit {0}
HasNoneTwice NoMemory = Unit {0}

-- the clause at level 0, a conflict wherever it is true under every interpretation and false in the log
pub record IsLemmaOf (ls : List Signed) (c : Lemma) : Type 0 where
  pub literals : c.literals ≡ ls
  pub level : c.level ≡ 0
  pub conflict : (ds : List Declaration) (t : TheoryState) → IsToldAtOneLevel ds t → IsFalseClause ds t.reading.trees t.reading.table t.log ls → IsConflict t c

abbrev pub IsConflictOf : List Signed → Report → Type 0
IsConflictOf ls (Conflict c) = IsLemmaOf ls c
IsConflictOf ls Fits = ⊥
IsConflictOf ls (Range number) = ⊥
IsConflictOf ls UnitsSpent = ⊥
IsConflictOf ls Memory = ⊥

abbrev pub IsReport : Finding → Report → Type 0
IsReport (Clash ls) r = IsConflictOf ls.items r
IsReport AllFit r = r ≡ Fits
IsReport (NoFit number) r = r ≡ Range number
IsReport Spent r = r ≡ UnitsSpent
IsReport NoMemory r = r ≡ Memory
