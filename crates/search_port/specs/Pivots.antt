-- The pivots among the units of a check, each from the basis that those before it left, and from the grid that the one right before it left.
use Rattle.std.specs.Prelude.{◌≡◌, ℕ, ◌<◌, Bool, true, false, List, [], ◌∷◌, length, slice_index_or, Contains, ℤ, Option, Some, None, IfSome, if◌then◌else◌}
use Rattle.fraction128.specs.declared.Summand.{Summand}
use Rattle.fraction128.specs.declared.Side.{Side}
use Rattle.fraction128.specs.declared.Side.TheVariants.{Lower, Upper}
use Rattle.fraction128.specs.declared.Grid.{Grid}
use Rattle.fraction128.specs.declared.Line.{Line}
use Rattle.fraction128.specs.Grid.{column_at, turned, bound_number, bounds_above}
use Rattle.fraction128.specs.Lines.{Bounding, IsBoundedBy, IsPivotIn, first_basis, exchanged, basis_along}
use Rattle.fraction128.specs.Chain.{GoesOn, left_by, unbounded}
use Rattle.literals.specs.Signed.{Signed}
use Rattle.smt_meaning.specs.declared.clauses.Summand as Places
use Rattle.smt_meaning.specs.declared.clauses.Atom.{Atom}
use Rattle.smt_meaning.specs.declared.clauses.Atom.TheVariants.{AtMost}
use Rattle.smt_meaning.specs.CheckAtoms.{IsBoundOf, grid_sum, told}
use Rattle.search_port.specs.State.{TheoryState, Variables, atom_at}
use Rattle.search_port.specs.Spending.{Spending}
use Rattle.search_port.specs.declared.budget.Spent.{Spent}
use Rattle.search_port.specs.declared.budget.Spent.TheVariants.{Learnt, Numbered, Pivot}

-- the lines of the pivots, oldest first
abbrev pub pivot_lines : List Spent → List Line
pivot_lines [] = []
pivot_lines (Learnt c ∷ us) = pivot_lines us
pivot_lines (Numbered n ∷ us) = pivot_lines us
pivot_lines (Pivot l ∷ us) = l ∷ pivot_lines us

-- pivots of these lines, in order, as units
abbrev pub pivots_of : List Line → List Spent
pivots_of [] = []
pivots_of (l ∷ ls) = Pivot l ∷ pivots_of ls

-- the last unit, if there is one, isn't a pivot
abbrev pub EndsOtherwise : List Spent → Type 0
EndsOtherwise [] = Unit {0}
EndsOtherwise (Learnt c ∷ []) = Unit {0}
EndsOtherwise (Numbered n ∷ []) = Unit {0}
EndsOtherwise (Pivot l ∷ []) = ⊥
EndsOtherwise (u ∷ v ∷ us) = EndsOtherwise (v ∷ us)

-- each pivot is by Bland's rule, from the basis that those before it left, and where no other unit is between from the grid that the one before it left, which is `here`; the last one, if it is the last unit, led on to `there`
abbrev pub AreChained : List (List Summand) → Bounding → (ℕ → Bool) → Option Grid → List Spent → Option Grid → Type 0
AreChained sums B is here [] there = GoesOn here there
AreChained sums B is here (Learnt c ∷ us) there = AreChained sums B is None us there
AreChained sums B is here (Numbered n ∷ us) there = AreChained sums B is None us there
AreChained sums B is here (Pivot l ∷ us) there = (p : IsPivotIn sums B is l) × GoesOn here (Some p.grid) × AreChained sums B (exchanged l is) (Some (left_by p)) us there

-- these of the variables are basic, if the theory can tell
abbrev pub AreBasic : (ℕ → Bool) → Variables → Type 0
AreBasic is v = (flags : List Bool) → v.basic ≡ Some flags → (i : ℕ) → i < length v.sums → slice_index_or flags i false ≡ is i

-- a literal of the log says this bound
pub record IsSaid (table : List Atom) (log : List Signed) (sum : List Summand) (side : Side) (number : ℤ) : Type 0 where
  pub literal : Signed
  pub among : Contains log literal
  pub terms : List Places.Summand
  pub most : ℤ
  pub atom : atom_at table literal.atom ≡ AtMost terms most
  pub sum_is : sum ≡ turned (grid_sum terms)
  pub side_is : side ≡ (if bounds_above (told terms most literal.positive) then Upper else Lower)
  pub number_is : number ≡ bound_number (told terms most literal.positive)

-- the bounds of the grid are said by the log, and its variables, their values and its rows are those that the theory has, if it can tell
pub record IsOfLog (t : TheoryState) (g : Grid) : Type 0 where
  pub bounds : (i : ℕ) → i < length g.columns → IsBoundedBy (IsSaid t.reading.table t.log) (column_at g i)
  pub variables : IfSome t.variables.grid (λ h. unbounded g ≡ h)

-- the pivots among the units are over numbered atoms, led from the basis before any pivot to what is basic now, and hang together; the last one, if it is the last unit, led on to what the theory has, under bounds that the log says
pub record ArePivots (t : TheoryState) (us : List Spent) : Type 0 where
  pub grid : Grid
  pub of_log : IsOfLog t grid
  pub lines : AreChained t.variables.sums (IsBoundOf (Contains t.reading.table)) (first_basis t.variables.sums) None us (Some grid)
  pub basis : AreBasic (basis_along (first_basis t.variables.sums) (pivot_lines us)) t.variables

-- where lines are kept they stay so
abbrev pub KeepsPivots : TheoryState → TheoryState → Spending → Spending → Type 0
KeepsPivots t u b c = b.keeps_lines ≡ true → ArePivots t b.units → ArePivots u c.units
