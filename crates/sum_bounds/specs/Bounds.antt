-- Bounds on sums of terms, told one after another, each with the literal that says it.
use Rattle.std.specs.Prelude.{◌≡◌, ◌≢◌, ℕ, ◌+◌, ◌<◌, Bool, true, false, List, [], ◌∷◌, ◌++◌, map, length, ℤ, pos, ◌+ℤ◌, neg_ℤ, Option, Some, All, AllPairs, Contains, if◌then◌else◌, ◌&&◌}
use Rattle.fraction128.specs.declared.ratio.Ratio.{Ratio}
use Rattle.fraction128.specs.declared.range.Op.TheVariants.{Add}
use Rattle.fraction128.specs.Number.{whole, is_less}
use Rattle.fraction128.specs.Whole.{InRange}
use Rattle.fraction128.specs.declared.Summand.{Summand}
use Rattle.fraction128.specs.declared.Column.{Column}
use Rattle.fraction128.specs.declared.Side.{Side}
use Rattle.fraction128.specs.declared.Side.TheVariants.{Lower, Upper}
use Rattle.fraction128.specs.Grid.{leaf, is_turned, turned, variable_of, written_fits, entries_value, entries_value_fits, sum_row, no_coefficients}
use Rattle.fraction128.specs.Chain.{StaysOrRises, StaysOrFalls}
use Rattle.fraction128.specs.Lines.{NextFails, IsFloor, IsPositive, sum_value}
use Rattle.tableau.specs.declared.failure.Failure.{Failure}
use Rattle.tableau.specs.declared.failure.Failure.TheVariants.{Range as OutOfRange}
use Rattle.tableau.specs.Table.{Table}
use Rattle.simplex.specs.declared.trail.Set.{Set}
use Rattle.literals.specs.Signed.{Signed, opposite, unpacked}
use Rattle.simplex_steps.specs.State.{grid_of, column_in, values, IsSolution}
use Rattle.simplex.specs.Sums.{IsMeant, HaveOwnSums}
use Rattle.simplex_steps.specs.Run.{AreWithin, NextPivotFits}
use Rattle.simplex.specs.State as Simplex
use Rattle.sum_bounds.specs.declared.writing.SumVariable.{SumVariable}
use Rattle.sum_bounds.specs.declared.finding.Finding.{Finding}
use Rattle.sum_bounds.specs.declared.finding.Finding.TheVariants.{Fits, Conflict, Range as NoFit, UnitsSpent, Memory}
use Rattle.sum_bounds.specs.declared.fractions.FractionalLeaf.{FractionalLeaf}
use Rattle.sum_bounds.specs.Hash.{sum_hash}
use Rattle.sum_bounds.specs.Written.{IsKnown}

-- a bound on the sum of a variable, and the literal that says it
pub record Told : Type 0 where
  pub literal : Signed
  pub variable : ℕ
  pub side : Side
  pub number : ℤ

-- the variables with their sums, bounds and values, the rows between them, and the bounds told, oldest first
pub record State : Type 0 where
  pub table : Table
  pub columns : List Column
  pub told : List Told

-- the sum of each variable
abbrev pub sums : State → ℕ → List Summand
sums s i = (column_in s.columns i).sum

-- the value of the variable of each term
abbrev pub leaf_values : State → ℕ → Ratio
leaf_values s term = values s.columns (variable_of s.columns term)

-- ---- what is told

-- a literal's bound on a sum, as a bound on the sum or, where that is turned, on its negation
abbrev pub told_side : Bool → Bool → Side
told_side true false = Upper
told_side true true = Lower
told_side false false = Lower
told_side false true = Upper

-- at most k, or at least k + 1
abbrev pub told_number : Bool → Bool → ℤ → ℤ
told_number positive turned k = let n = if positive then k else k +ℤ pos 1 in if turned then neg_ℤ n else n

abbrev pub told_bound : Signed → ℕ → Bool → ℤ → Told
told_bound l i turned k = record { literal = l; variable = i; side = told_side l.positive turned; number = told_number l.positive turned k }

-- at least the next number, which leaves the range
pub record IsPastEnd (l : Signed) (k : ℤ) (e : Failure) : Type 0 where
  pub negative : l.positive ≡ false
  pub outside : InRange (k +ℤ pos 1) → ⊥
  pub step : e ≡ OutOfRange (record { op = Add; a = k; b = pos 1 })

-- ---- meeting bounds

-- the value meets the bound
abbrev pub MeetsSide : Side → ℤ → Ratio → Type 0
MeetsSide Lower k x = is_less x (whole k) ≡ false
MeetsSide Upper k x = is_less (whole k) x ≡ false

-- the sum meets the bound, where w gives each term its value
abbrev pub Meets : (ℕ → List Summand) → (ℕ → Ratio) → Told → Type 0
Meets sum w t = MeetsSide t.side t.number (sum_value w (sum t.variable))

-- the literals are complements of those of bounds that were told, none twice, and these bounds are apart in a sense
pub record AreComplements (Apart : List Told → Type 0) (told : List Told) (ls : List Signed) : Type 0 where
  pub bounds : List Told
  pub stand : All (Contains told) bounds
  pub each : All (λ (t : Told). Contains ls (opposite t.literal)) bounds
  pub only : All (λ l. (t : Told) × Contains bounds t × (l ≡ opposite t.literal)) ls
  pub once : AllPairs (λ (a b : Signed). a ≢ b) ls
  pub apart : Apart bounds

-- whatever values the terms have, not all of these bounds hold
abbrev pub NoneMeet : (ℕ → List Summand) → List Told → Type 0
NoneMeet sum bounds = (w : ℕ → Ratio) → IsPositive w → All (Meets sum w) bounds → ⊥

-- the literals say that some bounds that were told, which no values meet, don't all hold
abbrev pub IsConflict : (ℕ → List Summand) → List Told → List Signed → Type 0
IsConflict sum = AreComplements (NoneMeet sum)

-- what a check finds
abbrev pub Judges : State → Finding → Type 0
Judges s Fits = AreWithin s.columns × All (Meets (sums s) (leaf_values s)) s.told
Judges s (Conflict ls) = IsConflict (sums s) s.told ls.items
Judges s (NoFit number) = NextFails (grid_of s.table s.columns)
Judges s UnitsSpent = NextPivotFits (grid_of s.table s.columns)
Judges s Memory = Unit {0}

abbrev pub SpendsRoom : ℕ → ℕ → Finding → Type 0
SpendsRoom room made UnitsSpent = made ≡ room
SpendsRoom room made Fits = Unit {0}
SpendsRoom room made (Conflict ls) = Unit {0}
SpendsRoom room made (NoFit number) = Unit {0}
SpendsRoom room made Memory = Unit {0}

-- ---- bounds of variables

-- the bound of a column on a side
abbrev pub bound_on : Column → Side → Option ℤ
bound_on c Lower = c.lower
bound_on c Upper = c.upper

-- the bound was told
pub record IsToldOn (told : List Told) (i : ℕ) (side : Side) (k : ℤ) : Type 0 where
  pub bound : Told
  pub among : Contains told bound
  pub variable : bound.variable ≡ i
  pub on : bound.side ≡ side
  pub number : bound.number ≡ k

-- on the side stands the number, or a tighter one
abbrev pub HoldsOn : Side → ℤ → Option ℤ → Type 0
HoldsOn Lower k o = StaysOrRises (Some k) o
HoldsOn Upper k o = StaysOrFalls (Some k) o

-- the bound told stands, or a tighter one
abbrev pub IsTakenIn : List Column → Told → Type 0
IsTakenIn cs t = HoldsOn t.side t.number (bound_on (column_in cs t.variable) t.side)

-- ---- variables

-- the variable stands for the sum, or for its negation where the sum is turned
pub record StandsFor (s : State) (ps : List Summand) (v : SumVariable) : Type 0 where
  pub known : v.variable < length s.columns
  pub sign : v.turned ≡ is_turned ps
  pub sum : sums s v.variable ≡ turned ps

-- each term of the sum has a variable, and the coefficients are numbers of the range other than 0
abbrev pub IsSum : List Column → List Summand → Type 0
IsSum cs ps = All (IsKnown cs) ps

-- a variable more, for a term, which isn't basic and has the value 0
abbrev pub leaf_table : Table → Table
leaf_table t = record { count = t.count + 1; rows = t.rows }

abbrev pub leaf_columns : List Column → ℕ → List Column
leaf_columns cs term = cs ++ Simplex.new_column (leaf term) (whole (pos 0)) ∷ []

abbrev pub with_leaf : State → ℕ → State
with_leaf s term = record { table = leaf_table s.table; columns = leaf_columns s.columns term; told = s.told }

-- a variable more, for a sum, with its row and that row's value
abbrev pub sum_table : Table → List Column → List Summand → Table
sum_table t cs ps = Simplex.with_row t (sum_row cs t.rows ps)

abbrev pub sum_columns : Table → List Column → List Summand → List Column
sum_columns t cs ps = cs ++ Simplex.new_column ps (entries_value (values cs) (whole (pos 0)) (sum_row cs t.rows ps).entries) ∷ []

abbrev pub with_sum : State → List Summand → State
with_sum s ps = record { table = sum_table s.table s.columns ps; columns = sum_columns s.table s.columns ps; told = s.told }

-- the numbers of that row and of its value stay in the range
abbrev pub sum_fits : Table → List Column → List Summand → Bool
sum_fits t cs ps = written_fits cs t.rows no_coefficients ps && entries_value_fits (values cs) (whole (pos 0)) (sum_row cs t.rows ps).entries

-- ---- fractions

-- the column's value isn't whole, and its sum is a term alone
pub record IsFractional (c : Column) (f : FractionalLeaf) : Type 0 where
  pub is_leaf : c.sum ≡ leaf f.term
  pub value : f.value ≡ c.value
  pub broken : c.value.denominator ≢ 1
  pub floor : IsFloor f.floor c.value

-- the value of a variable is whole where it stands for a term alone
abbrev pub IsWhole : List Column → ℕ → Type 0
IsWhole cs i = (term : ℕ) → (column_in cs i).sum ≡ leaf term → (values cs i).denominator ≡ 1

-- the least variable of a term whose value isn't whole
pub record IsFirstIn (cs : List Column) (f : FractionalLeaf) : Type 0 where
  pub known : f.variable < length cs
  pub fraction : IsFractional (column_in cs f.variable) f
  pub least : (i : ℕ) → i < f.variable → IsWhole cs i

abbrev pub AreWholeIn : List Column → Type 0
AreWholeIn cs = (i : ℕ) → i < length cs → IsWhole cs i

-- the value of each term's variable is whole
abbrev pub AreWhole : State → Type 0
AreWhole s = AreWholeIn s.columns

-- ---- how they are kept

abbrev pub told_of : Set → Told
told_of b = record { literal = unpacked b.tag; variable = b.variable; side = b.side; number = b.number }

abbrev pub sum_hashes : List Column → List ℕ
sum_hashes cs = map (λ (c : Column). sum_hash c.sum) cs

-- the values meet all bounds told
abbrev pub AllMet : List Column → List Told → Type 0
AllMet cs told = All (λ (t : Told). MeetsSide t.side t.number (values cs t.variable)) told

-- the hashes are those of the sums, no sum has two variables, and where the state is clean the values meet all bounds told
pub record IsCore (s : Simplex.State) (keys : List ℕ) (count : ℕ) (is_clean : Bool) : Type 0 where
  pub hashed : keys ≡ sum_hashes s.columns
  pub counted : count ≡ length s.columns
  pub apart : HaveOwnSums s.columns
  pub clean : is_clean ≡ true → AllMet s.columns (map told_of s.bounds)

-- the values meet the rows, the solutions of the rows are the valuations that give each variable its sum's value, the bounds told are of variables, no sum has two, and the bounds that stand are the tightest of those told
pub record IsState (s : State) : Type 0 where
  pub solution : IsSolution s.table s.columns
  pub meant : IsMeant s.table.rows s.columns
  pub known : All (λ (t : Told). (t.variable < length s.columns) × InRange t.number) s.told
  pub apart : HaveOwnSums s.columns
  pub origins : (i : ℕ) (side : Side) (k : ℤ) → i < length s.columns → bound_on (column_in s.columns i) side ≡ Some k → IsToldOn s.told i side k
  pub taken : All (IsTakenIn s.columns) s.told
