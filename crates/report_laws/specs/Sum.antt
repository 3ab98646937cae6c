-- The stack of (assert (<= MAX (+ x y))), where MAX is the range's end.
use Rattle.smt_meaning.specs.CheckAtoms.{IsBoundOf, IsCheckAtom}
use Rattle.std.specs.Prelude.{ℕ, ℤ, pos, negsuc, Bool, true, false, List, [], ◌∷◌, ◌++◌, Option, Some, None, codes}
use Rattle.fraction128.specs.Number.{whole}
use Rattle.fraction128.specs.declared.Summand.{Summand}
use Rattle.fraction128.specs.declared.Entry.{Entry}
use Rattle.fraction128.specs.declared.TableRow.{TableRow}
use Rattle.fraction128.specs.declared.Column.{Column}
use Rattle.fraction128.specs.declared.Grid.{Grid}
use Rattle.fraction128.specs.Grid.{leaf}
use Rattle.fraction128.specs.declared.Line.{Line}
use Rattle.fraction128.specs.Lines.{IsPivotIn, first_basis, exchanged, pivot_line}
use Rattle.smt_meaning.specs.declared.values.Sort.TheVariants.{Int as Ints}
use Rattle.smt_meaning.specs.declared.terms.Operator.TheVariants.{AtMost as IsAtMost, Add}
use Rattle.smt_meaning.specs.declared.terms.Head.TheVariants.{Numeral, Theory, Symbol as Function}
use Rattle.smt_meaning.specs.declared.reports.Unit.TheVariants.{Pivot}
use Rattle.smt_meaning.specs.declared.reports.RangeSeen.TheVariants.{Step}
use Rattle.smt_meaning.specs.declared.reports.Cause.TheVariants.{Range, Units}
use Rattle.smt_meaning.specs.Declaration.{Declaration}
use Rattle.smt_meaning.specs.Term.{Tree, node, none, more}
use Rattle.smt_meaning.specs.Stack.{Frame}
use Rattle.smt_meaning.specs.declared.reports.Unit.{Unit as Spent}
use Rattle.smt_meaning.specs.Report.{Shows, AreAllSpent}

abbrev pub greatest : ℤ
greatest = pos 170141183460469231731687303715884105727

abbrev pub x : Tree
x = node (Function 0) none

abbrev pub y : Tree
y = node (Function 1) none

abbrev pub end : Tree
end = node (Numeral greatest) none

abbrev pub sum : Tree
sum = node (Theory Add) (more x (more y none))

abbrev pub low : Tree
low = node (Theory IsAtMost) (more end (more sum none))

abbrev pub trees : List Tree
trees = x ∷ y ∷ end ∷ sum ∷ low ∷ []

abbrev pub constant : ℕ → List ℕ → Declaration
constant i name = record { id = i; name = name; rank = record { arguments = []; result = Ints }; body = None; is_sort = false; is_name = false }

abbrev pub frames : List Frame
frames = record { declared = constant 0 (codes "x") ∷ constant 1 (codes "y") ∷ []; asserted = record { text = []; term = low } ∷ [] } ∷ []

-- ---- grids of x, y and x + y

abbrev pub both : List Summand
both = record { coefficient = pos 1; term = 0 } ∷ record { coefficient = pos 1; term = 1 } ∷ []

abbrev pub entry : ℕ → Entry
entry i = record { variable = i; coefficient = whole (pos 1) }

abbrev pub row : TableRow
row = record { basic = 2; entries = entry 0 ∷ entry 1 ∷ [] }

abbrev pub column : List Summand → Option ℤ → ℤ → Column
column ps low_ v = record { sum = ps; lower = low_; upper = None; value = whole v }

abbrev pub grid_of : Option ℤ → ℤ → Option ℤ → ℤ → Option ℤ → ℤ → Grid
grid_of a u b v c w = record { columns = column (leaf 0) a u ∷ column (leaf 1) b v ∷ column both c w ∷ []; rows = row ∷ []; pending = None }

-- x and y are at least MAX: x has moved there, and y is next
abbrev pub moving : Grid
moving = grid_of (Some greatest) greatest (Some greatest) (pos 0) None greatest

-- x + y is at least MAX: it leaves, and x enters
abbrev pub pivoting : Grid
pivoting = grid_of None (pos 0) None (pos 0) (Some greatest) (pos 0)

-- the sum leaves the range as y moves
abbrev pub SumIsPast : Type 0
SumIsPast = (limit : ℤ) → Shows trees frames limit [] (Range (Step moving))

-- under a limit of one unit a pivot is that unit
abbrev pub OnePivot : Type 0
OnePivot = Shows trees frames (pos 1) [] (Units (Pivot (pivot_line pivoting 2 0) ∷ []))

-- ---- to and fro

abbrev pub minus_entry : ℕ → Entry
minus_entry i = record { variable = i; coefficient = whole (negsuc 0) }

-- x = x + y - y: x is basic, and below MAX; y stands at its bound MAX
abbrev pub back_row : TableRow
back_row = record { basic = 0; entries = minus_entry 1 ∷ entry 2 ∷ [] }

abbrev pub least : ℤ
least = negsuc 170141183460469231731687303715884105726

abbrev pub back : Grid
back = record { columns = column (leaf 0) (Some greatest) least ∷ column (leaf 1) (Some greatest) greatest ∷ column both None (pos 0) ∷ []; rows = back_row ∷ []; pending = None }

abbrev pub to_and_fro : Bool → Line
to_and_fro true = pivot_line pivoting 2 0
to_and_fro false = pivot_line back 0 2

abbrev pub sums : List (List Summand)
sums = leaf 0 ∷ leaf 1 ∷ both ∷ []

-- the first is a pivot at the start, and the second one from the basis that the first leaves
abbrev pub EachIsAPivot : Type 0
EachIsAPivot =
    IsPivotIn sums (IsBoundOf (IsCheckAtom trees frames [])) (first_basis sums) (to_and_fro true)
    × IsPivotIn sums (IsBoundOf (IsCheckAtom trees frames [])) (exchanged (to_and_fro true) (first_basis sums)) (to_and_fro false)

-- but no report has them as neighbours
abbrev pub ToAndFroIsRefused : Type 0
ToAndFroIsRefused =
    (limit : ℤ) (branches : List Line) (before after : List Spent)
    → AreAllSpent trees frames limit branches (before ++ Pivot (to_and_fro true) ∷ Pivot (to_and_fro false) ∷ after) → ⊥
