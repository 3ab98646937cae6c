-- The stack of (assert (not (<= x MAX))), where MAX is the range's end.
use Rattle.std.specs.Prelude.{ℤ, pos, false, List, [], ◌∷◌, Some, None, codes}
use Rattle.fraction128.specs.Number.{whole}
use Rattle.fraction128.specs.declared.Grid.{Grid}
use Rattle.fraction128.specs.declared.Column.{Column}
use Rattle.fraction128.specs.Grid.{leaf}
use Rattle.smt_meaning.specs.declared.values.Sort.TheVariants.{Int as Ints}
use Rattle.smt_meaning.specs.declared.terms.Operator.TheVariants.{AtMost as IsAtMost, Not}
use Rattle.smt_meaning.specs.declared.terms.Head.TheVariants.{Numeral, Theory, Symbol as Function}
use Rattle.smt_meaning.specs.declared.reports.RangeSeen.TheVariants.{Step}
use Rattle.smt_meaning.specs.declared.reports.Cause.TheVariants.{Range}
use Rattle.smt_meaning.specs.Declaration.{Declaration}
use Rattle.smt_meaning.specs.Term.{Tree, node, none, more}
use Rattle.smt_meaning.specs.Stack.{Frame}
use Rattle.smt_meaning.specs.Report.{Shows}

abbrev pub greatest : ℤ
greatest = pos 170141183460469231731687303715884105727

abbrev pub x : Tree
x = node (Function 0) none

abbrev pub end : Tree
end = node (Numeral greatest) none

abbrev pub below : Tree
below = node (Theory IsAtMost) (more x (more end none))

abbrev pub above : Tree
above = node (Theory Not) (more below none)

abbrev pub trees : List Tree
trees = x ∷ end ∷ below ∷ above ∷ []

abbrev pub constant_x : Declaration
constant_x = record { id = 0; name = codes "x"; rank = record { arguments = []; result = Ints }; body = None; is_sort = false; is_name = false }

abbrev pub frames : List Frame
frames = record { declared = constant_x ∷ []; asserted = record { text = []; term = above } ∷ [] } ∷ []

-- x alone, and that it isn't at most the greatest number is to be taken in
abbrev pub column : Column
column = record { sum = leaf 0; lower = None; upper = None; value = whole (pos 0) }

abbrev pub grid : Grid
grid = record { columns = column ∷ []; rows = []; pending = Some (record { sum = leaf 0; number = greatest; holds = false }) }

-- to take it in leaves the range, and shows it
abbrev pub StepIsPast : Type 0
StepIsPast = (limit : ℤ) → Shows trees frames limit [] (Range (Step grid))
