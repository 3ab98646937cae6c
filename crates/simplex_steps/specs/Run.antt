-- Runs of steps, and how they end.
use Rattle.std.specs.Prelude.{◌≡◌, ℕ, ℤ, ◌<◌, ◌≤◌, ◌↔◌, Bool, true, List, [], ◌∷◌, ◌++◌, length, Some, None, Result, OnOk, IfErr, if◌then◌else◌}
use Rattle.fraction128.specs.declared.ratio.Ratio.{Ratio}
use Rattle.fraction128.specs.Whole.{InRange}
use Rattle.fraction128.specs.declared.Column.{Column}
use Rattle.fraction128.specs.declared.Grid.{Grid}
use Rattle.fraction128.specs.Grid.{Step, pivot, next_step, step_fits, WithinBounds, MeetsRows}
use Rattle.fraction128.specs.declared.Line.{Line}
use Rattle.fraction128.specs.Lines.{NextFails, HasBasis, basis_along, pivot_line}
use Rattle.simplex_steps.specs.Law.{Runs, RunsFit, pivots, lines_of, KeepsResting}
use Rattle.tableau.specs.Table.{Table, row_at}
use Rattle.tableau.specs.Staged.{HasEntry}
use Rattle.simplex_steps.specs.declared.find.Turn.{Turn}
use Rattle.simplex_steps.specs.declared.find.Found.{Found}
use Rattle.simplex_steps.specs.declared.find.Found.TheVariants.{Fits, Conflict, Pivot}
use Rattle.simplex_steps.specs.declared.line.PivotLines.{PivotLines}
use Rattle.simplex_steps.specs.declared.run.Checked.{Checked}
use Rattle.simplex_steps.specs.declared.run.Outcome.{Outcome}
use Rattle.simplex_steps.specs.declared.run.Outcome.TheVariants.{Fits as AllFit, Conflict as Clash, Range, UnitsSpent, Memory}
use Rattle.simplex_steps.specs.declared.run.Progress.{Progress}
use Rattle.simplex_steps.specs.declared.run.Progress.TheVariants.{Pivoted, Ended}
use Rattle.tableau.specs.declared.failure.Failure.{Failure}
use Rattle.tableau.specs.declared.failure.Failure.TheVariants.{Range as NoFit, Memory as NoMemory}
use Rattle.tableau.specs.Failing.{IsRange}
use Rattle.simplex_steps.specs.State.{grid_of, column_in, IsSolution, IsSound, IsSettled, SettledBelow, KeepsBounds}
use Rattle.simplex_steps.specs.Conflict.{IsRowConflict, IsConflict}

-- all variables are within their bounds
abbrev pub AreWithin : List Column → Type 0
AreWithin cs = (i : ℕ) → i < length cs → WithinBounds (column_in cs i)

-- next steps that fit, n of them pivots, lead from g to h
pub record Reaches (n : ℕ) (g h : Grid) : Type 0 where
  pub steps : List Step
  pub runs : Runs g steps h
  pub fits : RunsFit g steps
  pub count : pivots steps ≡ n

-- the next step of the grid is a pivot that fits
pub record NextPivotFits (g : Grid) : Type 0 where
  pub leaves : ℕ
  pub number : ℤ
  pub enters : ℕ
  pub next : next_step g ≡ Some (pivot leaves number enters)
  pub fits : step_fits g (pivot leaves number enters) ≡ true

-- the pivot of a turn
abbrev pub step_of : Table → Turn → Step
step_of t turn = pivot (row_at t.rows turn.place).basic turn.number turn.entering

-- the turn is the next step
pub record IsTurn (t : Table) (cs : List Column) (turn : Turn) : Type 0 where
  pub in_rows : turn.place < length t.rows
  pub known : turn.entering < t.count
  pub entry : HasEntry turn.entering (row_at t.rows turn.place).entries
  pub in_range : InRange turn.number
  pub next : next_step (grid_of t cs) ≡ Some (step_of t turn)

-- what the next step was found to be
abbrev pub IsFound : Table → List Column → Found → Type 0
IsFound t cs Fits = (next_step (grid_of t cs) ≡ None) × AreWithin cs
IsFound t cs (Conflict bounds) = (next_step (grid_of t cs) ≡ None) × IsRowConflict t.rows cs bounds.items
IsFound t cs (Pivot turn) = IsTurn t cs turn

-- the rows have the same solutions
abbrev pub SameSolutions : Table → Table → Type 0
SameSolutions t u = (v : ℕ → Ratio) → ((i : ℕ) → 0 < (v i).denominator) → MeetsRows u.rows v ↔ MeetsRows t.rows v

-- what an outcome says of the rows and columns at the end
abbrev pub Ends : Table → List Column → Outcome → Type 0
Ends t cs AllFit = (next_step (grid_of t cs) ≡ None) × AreWithin cs
Ends t cs (Clash bounds) = (next_step (grid_of t cs) ≡ None) × IsConflict t.rows cs bounds.items
Ends t cs (Range number) = NextFails (grid_of t cs)
Ends t cs UnitsSpent = NextPivotFits (grid_of t cs)
Ends t cs Memory = Unit {0}

-- units are spent only where there is no room for another pivot
abbrev pub SpendsRoom : ℕ → ℕ → Outcome → Type 0
SpendsRoom room made UnitsSpent = made ≡ room
SpendsRoom room made AllFit = Unit {0}
SpendsRoom room made (Clash bounds) = Unit {0}
SpendsRoom room made (Range number) = Unit {0}
SpendsRoom room made Memory = Unit {0}

-- an end that isn't for want of room
abbrev pub IsUnspent : Outcome → Type 0
IsUnspent UnitsSpent = ⊥
IsUnspent AllFit = Unit {0}
IsUnspent (Clash bounds) = Unit {0}
IsUnspent (Range number) = Unit {0}
IsUnspent Memory = Unit {0}

-- why a step wasn't made, as an end
abbrev pub IsFailed : Failure → Outcome → Type 0
IsFailed (NoFit r) o = o ≡ Range r
IsFailed NoMemory o = o ≡ Memory

-- next steps, none of them a pivot, led from columns to others: the bounds stay, and all is sound
pub record IsKept (t : Table) (cs ds : List Column) : Type 0 where
  pub reaches : Reaches 0 (grid_of t cs) (grid_of t ds)
  pub sound : IsSound t ds
  pub bounds : KeepsBounds cs ds

-- such steps, after which the variables below n that aren't basic are within their bounds
pub record IsMoved (t : Table) (cs ds : List Column) (n : ℕ) : Type 0 where
  pub kept : IsKept t cs ds
  pub settled : SettledBelow t ds n

-- the try to bring the variables below n that aren't basic within their bounds: where it fails for a number, the next step does
pub record Settles (t : Table) (cs ds : List Column) (n : ℕ) {T : Type 0} (r : Result T Failure) : Type 0 where
  pub kept : IsKept t cs ds
  pub settled : OnOk r (SettledBelow t ds n)
  pub range : IfErr r (λ e. IsRange e → NextFails (grid_of t ds))

-- next steps, so many of them pivots, led from rows and columns to others: the solutions and the bounds stay
pub record IsRun (t : Table) (cs : List Column) (u : Table) (ds : List Column) (pivots : ℕ) : Type 0 where
  pub reaches : Reaches pivots (grid_of t cs) (grid_of u ds)
  pub keeps : SameSolutions t u
  pub solution : IsSolution u ds
  pub bounds : KeepsBounds cs ds

-- the lines of the pivots of a run, where they are kept
abbrev pub kept_lines : Bool → Grid → List Step → List Line
kept_lines keep g ss = if keep then lines_of g ss else []

-- next steps that fit, n of them pivots, lead from g to h; where lines are kept, those of the pivots come after the lines before
pub record Records (keep : Bool) (n : ℕ) (g h : Grid) (before now : List Line) : Type 0 where
  pub steps : List Step
  pub runs : Runs g steps h
  pub fits : RunsFit g steps
  pub count : pivots steps ≡ n
  pub kept : now ≡ before ++ kept_lines keep g steps

-- the same, where the lines of the pivots tell which variables are basic at the end
pub record KeepsLines (keep : Bool) (n : ℕ) (g h : Grid) (before now : List Line) : Type 0 where
  pub steps : List Step
  pub runs : Runs g steps h
  pub fits : RunsFit g steps
  pub count : pivots steps ≡ n
  pub kept : now ≡ before ++ kept_lines keep g steps
  pub basis : (is : ℕ → Bool) → HasBasis is g → HasBasis (basis_along is (lines_of g steps)) h

-- a search by next steps, n of them pivots: their lines are kept where lines are, and what isn't basic at the end stands at a bound or as before
pub record IsSearch (room : ℕ) (t : Table) (cs : List Column) (before : PivotLines) (u : Table) (ds : List Column) (now : PivotLines) (n : ℕ) : Type 0 where
  pub run : IsRun t cs u ds n
  pub lines : KeepsLines before.keep n (grid_of t cs) (grid_of u ds) before.lines.items now.lines.items
  pub keep : now.keep ≡ before.keep
  pub rests : KeepsResting (grid_of t cs) (grid_of u ds)
  pub most : n ≤ room

-- such a search, and what its outcome says
pub record IsChecked (room : ℕ) (t : Table) (cs : List Column) (before : PivotLines) (u : Table) (ds : List Column) (now : PivotLines) (r : Checked) : Type 0 where
  pub search : IsSearch room t cs before u ds now r.pivots
  pub ends : Ends u ds r.outcome
  pub spent : SpendsRoom room r.pivots r.outcome

-- the line of a turn, where lines are kept
abbrev pub turn_lines : Bool → Table → List Column → Turn → List Line
turn_lines keep t cs turn = if keep then pivot_line (grid_of t cs) (row_at t.rows turn.place).basic turn.entering ∷ [] else []

-- one step, which keeps all as it should be, or an end, which changes nothing
pub record IsAdvanced (t : Table) (cs : List Column) (u : Table) (ds : List Column) : Type 0 where
  pub run : IsRun t cs u ds 1
  pub sound : IsSound u ds
  pub settled : IsSettled u ds

abbrev pub Advances : Bool → Table → List Column → List Line → Table → List Column → List Line → Progress → Type 0
Advances keep t cs ls u ds ms Pivoted = IsAdvanced t cs u ds × Records keep 1 (grid_of t cs) (grid_of u ds) ls ms
Advances keep t cs ls u ds ms (Ended o) = (u ≡ t) × (ds ≡ cs) × (ms ≡ ls) × Ends t cs o × IsUnspent o
