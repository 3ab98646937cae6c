-- Runs of next steps of a grid, and how many pivots they have.
use Rattle.std.specs.Prelude.{◌≡◌, ℕ, Bool, suc, ◌+◌, ◌^◌, ◌<◌, ◌≤◌, ◌⊎◌, true, false, List, [], ◌∷◌, ◌++◌, length, slice_index_or, ℤ, Option, Some, None, All}
use Rattle.fraction128.specs.Number.{whole, is_zero, SameNumber}
use Rattle.fraction128.specs.declared.Entry.{Entry}
use Rattle.fraction128.specs.declared.TableRow.{TableRow}
use Rattle.fraction128.specs.declared.Column.{Column}
use Rattle.fraction128.specs.declared.Grid.{Grid}
use Rattle.fraction128.specs.declared.ratio.Ratio.{Ratio}
use Rattle.fraction128.specs.declared.Member.{Member}
use Rattle.fraction128.specs.declared.Line.{Line}
use Rattle.fraction128.specs.Grid.{Step, take, move, pivot, coefficient, cell, value_at, column_at, is_basic, entries_of, row_of, missed, any_crossed, next_step, step_fits, after, MeetsRows}
use Rattle.fraction128.specs.Lines.{sum_value, IsPositive, AreIndependent, HasBasis, exchanged, basis_along, basic_member, line_of, pivot_line, IsIdentity, IsPivotLine, IsSeries}

abbrev pub no_row : TableRow
no_row = record { basic = 0; entries = [] }

abbrev pub row_at : List TableRow → ℕ → TableRow
row_at rows k = slice_index_or rows k no_row

-- the variables of the entries ascend, from i on and below n
abbrev pub AreFrom : ℕ → ℕ → List Entry → Type 0
AreFrom i n [] = Unit {0}
AreFrom i n (e ∷ es) = (i ≤ e.variable) × (e.variable < n) × AreFrom (e.variable + 1) n es

-- the entries have positive denominators
abbrev pub ArePositive : List Entry → Type 0
ArePositive [] = Unit {0}
ArePositive (e ∷ es) = (0 < e.coefficient.denominator) × ArePositive es

-- no variable is basic twice, no basic variable has an entry, and all are variables of the grid
pub record IsGrid (g : Grid) : Type 0 where
  pub distinct : (j k : ℕ) → j < length g.rows → k < length g.rows → (row_at g.rows j).basic ≡ (row_at g.rows k).basic → j ≡ k
  pub basics : (k : ℕ) → k < length g.rows → (row_at g.rows k).basic < length g.columns
  pub entries : (k : ℕ) → k < length g.rows → AreFrom 0 (length g.columns) (row_at g.rows k).entries
  pub positive : (k : ℕ) → k < length g.rows → ArePositive (row_at g.rows k).entries
  pub separate : (j k : ℕ) → j < length g.rows → k < length g.rows → is_zero (coefficient (row_at g.rows k).entries (row_at g.rows j).basic) ≡ true
  pub values : (i : ℕ) → 0 < (value_at g i).denominator

-- each step is the next one of the grid that those before it make, whether or not its numbers fit
abbrev pub Runs : Grid → List Step → Grid → Type 0
Runs g [] h = g ≡ h
Runs g (s ∷ ss) h = (next_step g ≡ Some s) × Runs (after g s) ss h

-- the numbers of each step fit the grid that those before it make
abbrev pub RunsFit : Grid → List Step → Type 0
RunsFit g [] = Unit {0}
RunsFit g (s ∷ ss) = (step_fits g s ≡ true) × RunsFit (after g s) ss

-- how many pivots there are among the steps
abbrev pub pivots : List Step → ℕ
pivots [] = 0
pivots (take p ∷ ss) = pivots ss
pivots (move i k ∷ ss) = pivots ss
pivots (pivot b k c ∷ ss) = suc (pivots ss)

-- with nothing pending, values that meet the rows and bounds that don't cross, a run of n variables has fewer than 3^n pivots
abbrev pub RunsAreShort : Type 0
RunsAreShort =
    (g h : Grid) (ss : List Step) → IsGrid g → g.pending ≡ None → MeetsRows g.rows (value_at g) → any_crossed g.columns ≡ false → Runs g ss h → pivots ss < 3 ^ length g.columns

-- a grid with nothing pending, whose values meet the rows and whose bounds don't cross
pub record IsLawful (g : Grid) : Type 0 where
  pub grid : IsGrid g
  pub pending : g.pending ≡ None
  pub meets : MeetsRows g.rows (value_at g)
  pub uncrossed : any_crossed g.columns ≡ false

-- of the variables below n those that aren't basic are within their bounds
abbrev pub IsSettledTo : Grid → ℕ → Type 0
IsSettledTo g n = (j : ℕ) → j < n → j < length g.columns → is_basic g.rows j ≡ false → missed (column_at g j) ≡ None

-- a next step leads to such a grid again
abbrev pub StepsKeep : Type 0
StepsKeep = (g : Grid) (s : Step) → IsLawful g → next_step g ≡ Some s → IsLawful (after g s)

-- a move brings its variable within its bounds, and the others that aren't basic stay
abbrev pub MovesSettle : Type 0
MovesSettle = (g : Grid) (i : ℕ) (k : ℤ) → IsLawful g → next_step g ≡ Some (move i k) → IsSettledTo g i → IsSettledTo (after g (move i k)) (i + 1)

-- after a pivot all that isn't basic is within its bounds
abbrev pub PivotsSettle : Type 0
PivotsSettle = (g : Grid) (b : ℕ) (k : ℤ) (c : ℕ) → IsLawful g → next_step g ≡ Some (pivot b k c) → IsSettledTo (after g (pivot b k c)) (length g.columns)

-- ---- lines

-- the lines of the pivots of a run, in order, each of the grid before its step
abbrev pub lines_of : Grid → List Step → List Line
lines_of g [] = []
lines_of g (take p ∷ ss) = lines_of (after g (take p)) ss
lines_of g (move i k ∷ ss) = lines_of (after g (move i k)) ss
lines_of g (pivot b k c ∷ ss) = pivot_line g b c ∷ lines_of (after g (pivot b k c)) ss

-- each of them is a pivot by Bland's rule
abbrev pub LinesArePivots : Type 0
LinesArePivots = (g h : Grid) (ss : List Step) → IsLawful g → Runs g ss h → All IsPivotLine (lines_of g ss)

-- neighbours among them differ in the basic variable, and the last one's isn't basic at the end; also after earlier lines of which this holds
abbrev pub LinesGoOn : Type 0
LinesGoOn = (g h : Grid) (ss : List Step) (ls : List Line) → IsLawful g → Runs g ss h → IsSeries g.rows ls → IsSeries h.rows (ls ++ lines_of g ss)

-- the entry isn't 0
abbrev pub IsNonzeroEntry : Entry → Type 0
IsNonzeroEntry e = is_zero e.coefficient ≡ false

-- a variable of the grid that isn't basic, with its column
pub record IsFreeMember (g : Grid) (m : Member) : Type 0 where
  pub known : m.variable < length g.columns
  pub free : is_basic g.rows m.variable ≡ false
  pub column : m.column ≡ column_at g m.variable

-- where the rows are identities between sums of terms, so is the line of a row, whose entries are of variables that aren't basic
abbrev pub LinesAreRows : Type 0
LinesAreRows =
    (g : Grid) (b : ℕ) (moves : Option ℕ) → IsLawful g → is_basic g.rows b ≡ true → ((w : ℕ → Ratio) → IsPositive w → MeetsRows g.rows (λ i. sum_value w (column_at g i).sum))
    → All IsNonzeroEntry (entries_of (row_of g.rows b)) → IsIdentity (basic_member g b) (line_of g b moves).entries × All (IsFreeMember g) (line_of g b moves).entries

-- ---- values that rest

-- the value is one of the column's bounds
abbrev pub IsAtBound : Column → Type 0
IsAtBound c = (k : ℤ) × (c.value ≡ whole k) × ((c.lower ≡ Some k) ⊎ (c.upper ≡ Some k))

-- what isn't basic in the second grid stands at one of its bounds there, or it wasn't basic in the first one and has the value that it had there
abbrev pub KeepsResting : Grid → Grid → Type 0
KeepsResting g h = (j : ℕ) → j < length h.columns → is_basic h.rows j ≡ false → IsAtBound (column_at h j) ⊎ ((is_basic g.rows j ≡ false) × (value_at h j ≡ value_at g j))

abbrev pub RunsRest : Type 0
RunsRest = (g h : Grid) (ss : List Step) → IsLawful g → Runs g ss h → KeepsResting g h

-- ---- independent sums

-- the rows are identities between the sums of their variables
abbrev pub AreIdentities : Grid → Type 0
AreIdentities g = (w : ℕ → Ratio) → IsPositive w → MeetsRows g.rows (λ i. sum_value w (column_at g i).sum)

-- each solution of the rows comes from values of the terms
abbrev pub ComeFromTerms : Grid → Type 0
ComeFromTerms g =
    (v : ℕ → Ratio) → IsPositive v → MeetsRows g.rows v → (w : ℕ → Ratio) × IsPositive w × ((i : ℕ) → i < length g.columns → SameNumber (sum_value w (column_at g i).sum) (v i))

-- where each solution comes from values of the terms, the sums of what isn't basic are independent
abbrev pub SolutionsAreFree : Type 0
SolutionsAreFree = (g : Grid) → IsGrid g → ComeFromTerms g → AreIndependent g

-- and where they are, and the rows are identities, each solution comes from values of the terms
abbrev pub FreeAreSolutions : Type 0
FreeAreSolutions = (g : Grid) → IsGrid g → AreIdentities g → AreIndependent g → ComeFromTerms g

-- a pivot keeps them independent
abbrev pub PivotsKeepFree : Type 0
PivotsKeepFree =
    (g : Grid) (b : ℕ) (k : ℤ) (c : ℕ) → IsLawful g → next_step g ≡ Some (pivot b k c) → AreIdentities g → AreIndependent g
    → AreIdentities (after g (pivot b k c)) × AreIndependent (after g (pivot b k c))

-- so does a move
abbrev pub MovesKeepFree : Type 0
MovesKeepFree = (g : Grid) (i : ℕ) (k : ℤ) → AreIdentities g → AreIndependent g → AreIdentities (after g (move i k)) × AreIndependent (after g (move i k))

-- the line of a pivot tells which variables are basic after it
abbrev pub PivotsExchange : Type 0
PivotsExchange =
    (g : Grid) (b : ℕ) (k : ℤ) (c : ℕ) (is : ℕ → Bool) → IsLawful g → next_step g ≡ Some (pivot b k c) → HasBasis is g → HasBasis (exchanged (pivot_line g b c) is) (after g (pivot b k c))

-- and the lines of a run tell it at its end
abbrev pub RunsExchange : Type 0
RunsExchange = (g h : Grid) (ss : List Step) (is : ℕ → Bool) → IsLawful g → Runs g ss h → HasBasis is g → HasBasis (basis_along is (lines_of g ss)) h

-- a basis determines its rows: grids of the same sums in which the same variables are basic have the same coefficients
abbrev pub BasesDetermine : Type 0
BasesDetermine =
    (g h : Grid) → IsGrid g → IsGrid h → length h.columns ≡ length g.columns → ((i : ℕ) → (column_at h i).sum ≡ (column_at g i).sum)
    → ((i : ℕ) → i < length g.columns → is_basic h.rows i ≡ is_basic g.rows i) → AreIdentities g → AreIdentities h → AreIndependent g
    → (b j : ℕ) → b < length g.columns → j < length g.columns → is_basic g.rows b ≡ true → SameNumber (cell h.rows b j) (cell g.rows b j)
