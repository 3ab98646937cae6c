-- The stack of (assert (<= 5 x)).
use Rattle.std.specs.Prelude.{◌≡◌, ℤ, pos, false, List, [], ◌∷◌, ◌++◌, None, codes}
use Rattle.fraction128.specs.declared.Line.{Line}
use Rattle.smt_meaning.specs.declared.values.Sort.TheVariants.{Int as Ints}
use Rattle.smt_meaning.specs.declared.terms.Operator.TheVariants.{AtMost as IsAtMost}
use Rattle.smt_meaning.specs.declared.terms.Head.TheVariants.{Numeral, Theory, Symbol as Function}
use Rattle.smt_meaning.specs.declared.reports.Unit.{Unit as Spent}
use Rattle.smt_meaning.specs.declared.reports.Unit.TheVariants.{Pivot}
use Rattle.smt_meaning.specs.declared.reports.Cause.TheVariants.{Units}
use Rattle.smt_meaning.specs.Declaration.{Declaration}
use Rattle.smt_meaning.specs.Term.{Tree, node, none, more}
use Rattle.smt_meaning.specs.Stack.{Frame}
use Rattle.smt_meaning.specs.Report.{Shows}
use Rattle.report_laws.specs.OneLeaf.{NothingLeaves}

abbrev pub x : Tree
x = node (Function 0) none

abbrev pub five : Tree
five = node (Numeral (pos 5)) none

abbrev pub low : Tree
low = node (Theory IsAtMost) (more five (more x none))

abbrev pub trees : List Tree
trees = five ∷ x ∷ low ∷ []

abbrev pub constant_x : Declaration
constant_x = record { id = 0; name = codes "x"; rank = record { arguments = []; result = Ints }; body = None; is_sort = false; is_name = false }

abbrev pub frames : List Frame
frames = record { declared = constant_x ∷ []; asserted = record { text = []; term = low } ∷ [] } ∷ []

abbrev pub NoneLeaves : Type 0
NoneLeaves = NothingLeaves trees frames

-- no unit is a pivot, and there are no branches
abbrev pub NoUnits : Type 0
NoUnits =
    (limit : ℤ) (branches : List Line) (us : List Spent) → Shows trees frames limit branches (Units us)
    → (branches ≡ []) × ((before after : List Spent) (l : Line) → us ≡ before ++ Pivot l ∷ after → ⊥)
