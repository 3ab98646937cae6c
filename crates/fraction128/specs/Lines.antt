-- Lines, which are rows of a grid with the columns of their variables, and what lines and grids show of a search.
use Rattle.std.specs.Prelude.{◌≡◌, ◌≢◌, ℕ, ◌+◌, ◌<◌, ◌≤◌, ◌⊎◌, Bool, true, false, not, ◌==◌, if◌then◌else◌, List, [], ◌∷◌, map, length, slice_index_or, ℤ, pos, ◌+ℤ◌, ◌*ℤ◌, ◌<ℤ◌, ◌≤ℤ◌, Option, Some, None, All, AllPairs, Contains}
use Rattle.fraction128.specs.declared.ratio.Ratio.{Ratio}
use Rattle.fraction128.specs.Ratio.{IsFraction}
use Rattle.fraction128.specs.Number.{whole, SameNumber, unreduced_sum, unreduced_product}
use Rattle.fraction128.specs.declared.Summand.{Summand}
use Rattle.fraction128.specs.declared.Entry.{Entry}
use Rattle.fraction128.specs.declared.TableRow.{TableRow}
use Rattle.fraction128.specs.declared.Column.{Column}
use Rattle.fraction128.specs.declared.Grid.{Grid}
use Rattle.fraction128.specs.declared.Member.{Member}
use Rattle.fraction128.specs.declared.Line.{Line}
use Rattle.fraction128.specs.declared.Side.{Side}
use Rattle.fraction128.specs.declared.Side.TheVariants.{Lower, Upper}
use Rattle.fraction128.specs.Grid.{Step, pivot, MeetsRows, WithinBounds, column_at, value_at, row_of, is_basic, entries_of, is_below, is_above, helps, leaf, same_sum, next_step, step_fits}

-- ---- sums of terms

-- the value of a sum, where w gives each term its value
abbrev pub sum_value : (ℕ → Ratio) → List Summand → Ratio
sum_value w [] = whole (pos 0)
sum_value w (p ∷ ps) = unreduced_sum (unreduced_product (whole p.coefficient) (w p.term)) (sum_value w ps)

-- all values have positive denominators
abbrev pub IsPositive : (ℕ → Ratio) → Type 0
IsPositive v = (i : ℕ) → 0 < (v i).denominator

-- ---- the sums of variables

-- the sum of a variable, where the sums of all variables are listed
abbrev pub sum_of_variable : List (List Summand) → ℕ → List Summand
sum_of_variable sums i = slice_index_or sums i []

-- the sums of the variables of a check, which are known ones: no sum has two variables, and none is empty
pub record AreSums (Known : List Summand → Type 0) (sums : List (List Summand)) : Type 0 where
  pub apart : AllPairs (λ (ps qs : List Summand). ps ≢ qs) sums
  pub filled : All (λ (ps : List Summand). ps ≢ []) sums
  pub known : All Known sums

-- the column of a variable has the variable's sum
abbrev pub HasSum : List (List Summand) → ℕ → Column → Type 0
HasSum sums i c = (i < length sums) × (c.sum ≡ sum_of_variable sums i)

-- ---- rows, values and bounds

-- which numbers may bound a sum on a side
abbrev pub Bounding : Type 1
Bounding = List Summand → Side → ℤ → Type 0

-- the column's bounds are such numbers
pub record IsBoundedBy (B : Bounding) (c : Column) : Type 0 where
  pub lower : (k : ℤ) → c.lower ≡ Some k → B c.sum Lower k
  pub upper : (k : ℤ) → c.upper ≡ Some k → B c.sum Upper k

-- the value is 0 or such a number, whether or not that bound stands
abbrev pub IsResting : Bounding → Column → Type 0
IsResting B c = (c.value ≡ whole (pos 0)) ⊎ ((s : Side) × (k : ℤ) × (c.value ≡ whole k) × B c.sum s k)

-- the numbers ascend, from i on
abbrev pub AscendFrom : ℕ → List ℕ → Type 0
AscendFrom i [] = Unit {0}
AscendFrom i (j ∷ js) = (i ≤ j) × AscendFrom (j + 1) js

-- a fraction in lowest terms other than 0, with a variable that has a column and isn't basic
pub record IsEntry (g : Grid) (e : Entry) : Type 0 where
  pub fraction : IsFraction e.coefficient
  pub nonzero : e.coefficient.numerator ≢ pos 0
  pub known : e.variable < length g.columns
  pub free : is_basic g.rows e.variable ≡ false

-- the row of a variable, over variables that aren't basic, each once and in ascending order
pub record IsRow (g : Grid) (r : TableRow) : Type 0 where
  pub known : r.basic < length g.columns
  pub ascending : AscendFrom 0 (map (λ (e : Entry). e.variable) r.entries)
  pub entries : All (IsEntry g) r.entries

-- no variable has two rows
pub record AreRows (g : Grid) : Type 0 where
  pub each : All (IsRow g) g.rows
  pub apart : AllPairs (λ (q r : TableRow). q.basic ≢ r.basic) g.rows

-- the sums of the variables that aren't basic are independent: whatever values are wanted for these, some values of the terms give each of them its own
abbrev pub AreIndependent : Grid → Type 0
AreIndependent g =
    (v : ℕ → Ratio) → IsPositive v
    → (w : ℕ → Ratio) × IsPositive w × ((i : ℕ) → i < length g.columns → is_basic g.rows i ≡ false → SameNumber (sum_value w (column_at g i).sum) (v i))

-- a grid of these variables: each row is an identity between the sums of its variables, whatever values the terms have, and what isn't basic is independent; the values, in lowest terms, meet the rows;
-- each bound is such a number; what isn't basic is 0 or such a number
pub record IsSoundGrid (sums : List (List Summand)) (B : Bounding) (g : Grid) : Type 0 where
  pub columns : (i : ℕ) → i < length g.columns → HasSum sums i (column_at g i)
  pub rows : AreRows g
  pub identities : (w : ℕ → Ratio) → IsPositive w → MeetsRows g.rows (λ i. sum_value w (column_at g i).sum)
  pub independent : AreIndependent g
  pub fractions : (i : ℕ) → i < length g.columns → IsFraction (value_at g i)
  pub meets : MeetsRows g.rows (value_at g)
  pub bounded : (i : ℕ) → i < length g.columns → IsBoundedBy B (column_at g i)
  pub resting : (i : ℕ) → i < length g.columns → is_basic g.rows i ≡ false → IsResting B (column_at g i)

-- the next step of the grid doesn't fit
pub record NextFails (g : Grid) : Type 0 where
  pub step : Step
  pub next : next_step g ≡ Some step
  pub fails : step_fits g step ≡ false

-- ---- lines

-- a variable with a coefficient and its column
abbrev pub member_of : Grid → Entry → Member
member_of g e = record { variable = e.variable; coefficient = e.coefficient; column = column_at g e.variable }

-- the basic variable of a row, whose coefficient is 1
abbrev pub basic_member : Grid → ℕ → Member
basic_member g b = record { variable = b; coefficient = whole (pos 1); column = column_at g b }

-- the row of a basic variable as a line
abbrev pub line_of : Grid → ℕ → Option ℕ → Line
line_of g b moves = record { basic = Some (basic_member g b); entries = map (member_of g) (entries_of (row_of g.rows b)); moves = moves }

-- the line of the pivot of b and c
abbrev pub pivot_line : Grid → ℕ → ℕ → Line
pivot_line g b c = line_of g b (Some c)

abbrev pub empty_line : Line
empty_line = record { basic = None; entries = []; moves = None }

-- the sum of the entries, where f gives each its value
abbrev pub members_value : (Member → Ratio) → List Member → Ratio
members_value f [] = whole (pos 0)
members_value f (m ∷ ms) = unreduced_sum (unreduced_product m.coefficient (f m)) (members_value f ms)

-- the basic variable's sum is that of the entries, whatever values the terms have, and the values meet the row
pub record IsIdentity (b : Member) (ms : List Member) : Type 0 where
  pub identity : (w : ℕ → Ratio) → IsPositive w → SameNumber (sum_value w b.column.sum) (members_value (λ m. sum_value w m.column.sum) ms)
  pub meets : SameNumber b.column.value (members_value (λ m. m.column.value) ms)

-- ---- which variables are basic

-- the sum is a term alone
abbrev pub is_leaf_sum : List Summand → Bool
is_leaf_sum [] = false
is_leaf_sum (p ∷ ps) = same_sum (p ∷ ps) (leaf p.term)

-- before any pivot, those whose sum isn't a term alone
abbrev pub first_basis : List (List Summand) → ℕ → Bool
first_basis sums i = not (is_leaf_sum (sum_of_variable sums i))

-- after a pivot, the variable that moves in the place of the one whose row it was
abbrev pub exchanged : Line → (ℕ → Bool) → ℕ → Bool
exchanged l is i = by_line l.basic l.moves
  where
    by_line : Option Member → Option ℕ → Bool
    by_line (Some b) (Some c) = if i == c then true else if i == b.variable then false else is i
    by_line (Some b) None = is i
    by_line None moves = is i

-- after the pivots of these lines
abbrev pub basis_along : (ℕ → Bool) → List Line → ℕ → Bool
basis_along is [] = is
basis_along is (l ∷ ls) = basis_along (exchanged l is) ls

abbrev pub HasBasis : (ℕ → Bool) → Grid → Type 0
HasBasis is g = (i : ℕ) → i < length g.columns → is_basic g.rows i ≡ is i

-- the line is that of the next step of such a grid, where these variables are basic
pub record IsPivotIn (sums : List (List Summand)) (B : Bounding) (is : ℕ → Bool) (l : Line) : Type 0 where
  pub grid : Grid
  pub sound : IsSoundGrid sums B grid
  pub basis : HasBasis is grid
  pub leaves : ℕ
  pub number : ℤ
  pub enters : ℕ
  pub next : next_step grid ≡ Some (pivot leaves number enters)
  pub line : l ≡ pivot_line grid leaves enters

-- the line is the row of a variable in such a grid, all of whose values lie within their bounds
pub record IsRowIn (sums : List (List Summand)) (B : Bounding) (l : Line) : Type 0 where
  pub grid : Grid
  pub sound : IsSoundGrid sums B grid
  pub within : All WithinBounds grid.columns
  pub variable : ℕ
  pub basic : is_basic grid.rows variable ≡ true
  pub line : l ≡ line_of grid variable None

-- ---- pivots

-- the value is below the lower bound, or above the upper one
abbrev pub IsOutside : Bool → Column → Type 0
IsOutside true c = is_below c.value c.lower ≡ true
IsOutside false c = is_above c.value c.upper ≡ true

-- the member can move so that the row's basic variable rises, or falls
abbrev pub Helps : Bool → Member → Type 0
Helps rises m = helps rises m.coefficient m.column ≡ true

-- the variable c is the least of the row that can move so
pub record IsLeastHelping (rises : Bool) (ms : List Member) (c : ℕ) : Type 0 where
  pub member : Member
  pub in_row : Contains ms member
  pub is : member.variable ≡ c
  pub can : Helps rises member
  pub least : All (λ (m : Member). m.variable < c → Helps rises m → ⊥) ms

abbrev pub IsPivotOf : Member → List Member → ℕ → Type 0
IsPivotOf b ms c = (rises : Bool) × IsOutside rises b.column × IsLeastHelping rises ms c

-- a pivot by Bland's rule: the basic variable is outside one of its bounds, and the one that moves is the least of the row that can bring it nearer
abbrev pub IsPivotLine : Line → Type 0
IsPivotLine l = (b : Member) × (c : ℕ) × (l.basic ≡ Some b) × (l.moves ≡ Some c) × IsPivotOf b l.entries c

-- the two lines are of different basic variables
abbrev pub HaveOthers : Line → Line → Type 0
HaveOthers l m = (b c : Member) → l.basic ≡ Some b → m.basic ≡ Some c → b.variable ≢ c.variable

-- the line's basic variable isn't basic in the rows
abbrev pub HasLeft : List TableRow → Line → Type 0
HasLeft rows l = (b : Member) → l.basic ≡ Some b → is_basic rows b.variable ≡ false

-- what follows a line: one that differs in the basic variable, or nothing where that variable isn't basic in the rows
abbrev pub GoesOn : List TableRow → Line → List Line → Type 0
GoesOn rows l [] = HasLeft rows l
GoesOn rows l (m ∷ ms) = HaveOthers l m

-- neighbouring lines differ in the basic variable, and that of the last one isn't basic in the rows
abbrev pub IsSeries : List TableRow → List Line → Type 0
IsSeries rows [] = Unit {0}
IsSeries rows (l ∷ ls) = GoesOn rows l ls × IsSeries rows ls

-- ---- branches

-- k is the floor of x
abbrev pub IsFloor : ℤ → Ratio → Type 0
IsFloor k x = ((k *ℤ pos x.denominator) ≤ℤ x.numerator) × (x.numerator <ℤ ((k +ℤ pos 1) *ℤ pos x.denominator))

-- the line's basic variable is the term, whose value isn't whole, and k is the floor of that value
pub record IsBranchLine (term : ℕ) (k : ℤ) (l : Line) : Type 0 where
  pub basic : Member
  pub is_basic : l.basic ≡ Some basic
  pub is_term : basic.column.sum ≡ leaf term
  pub broken : basic.column.value.denominator ≢ 1
  pub floor : IsFloor k basic.column.value
