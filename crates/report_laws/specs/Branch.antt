-- The stack of (assert (<= 1 (+ x x y))) and (assert (<= 0 x)), on which x can be a half, and isn't minus a half.
use Rattle.std.specs.Prelude.{ℤ, pos, negsuc, List, [], ◌∷◌, Option, Some, None, codes}
use Rattle.fraction128.specs.declared.ratio.Ratio.{Ratio}
use Rattle.fraction128.specs.Number.{whole}
use Rattle.fraction128.specs.declared.Summand.{Summand}
use Rattle.fraction128.specs.declared.TableRow.{TableRow}
use Rattle.fraction128.specs.declared.Grid.{Grid}
use Rattle.fraction128.specs.declared.Line.{Line}
use Rattle.fraction128.specs.Grid.{leaf}
use Rattle.fraction128.specs.Lines.{IsRowIn, IsBranchLine, line_of}
use Rattle.smt_meaning.specs.declared.terms.Operator.TheVariants.{AtMost as IsAtMost, Add}
use Rattle.smt_meaning.specs.declared.terms.Head.TheVariants.{Numeral, Theory}
use Rattle.smt_meaning.specs.Term.{Tree, node, none, more}
use Rattle.smt_meaning.specs.Stack.{Frame}
use Rattle.smt_meaning.specs.CheckAtoms.{IsFirstAtom, IsBoundOf, AreBranches, AreCheckSums}
use Rattle.report_laws.specs.Sum.{x, y, constant}

abbrev pub nought : Tree
nought = node (Numeral (pos 0)) none

abbrev pub one : Tree
one = node (Numeral (pos 1)) none

abbrev pub sum : Tree
sum = node (Theory Add) (more x (more x (more y none)))

abbrev pub low : Tree
low = node (Theory IsAtMost) (more one (more sum none))

abbrev pub least : Tree
least = node (Theory IsAtMost) (more nought (more x none))

abbrev pub trees : List Tree
trees = x ∷ y ∷ one ∷ sum ∷ low ∷ nought ∷ least ∷ []

abbrev pub frames : List Frame
frames = record { declared = constant 0 (codes "x") ∷ constant 1 (codes "y") ∷ []; asserted = record { text = []; term = low } ∷ record { text = []; term = least } ∷ [] } ∷ []

-- ---- grids of x, y and 2x + y

abbrev pub both : List Summand
both = record { coefficient = pos 2; term = 0 } ∷ record { coefficient = pos 1; term = 1 } ∷ []

abbrev pub sums : List (List Summand)
sums = leaf 0 ∷ leaf 1 ∷ both ∷ []

abbrev pub halved : ℤ → Ratio
halved k = record { numerator = k; denominator = 2 }

-- x is half of 2x + y, less half of y
abbrev pub row : TableRow
row = record { basic = 0; entries = record { variable = 1; coefficient = halved (negsuc 0) } ∷ record { variable = 2; coefficient = halved (pos 1) } ∷ [] }

-- y is 0, and 2x + y at its bound k
abbrev pub grid_at : Option ℤ → Option ℤ → ℤ → Grid
grid_at lower upper k = record {
  columns = record { sum = leaf 0; lower = None; upper = None; value = halved k }
      ∷ record { sum = leaf 1; lower = None; upper = None; value = whole (pos 0) }
      ∷ record { sum = both; lower = lower; upper = upper; value = whole k }
      ∷ [];
  rows = row ∷ [];
  pending = None;
}

-- the row of x where 2x + y is at least 1, and where it is at most -1
abbrev pub at_half : Line
at_half = line_of (grid_at (Some (pos 1)) None (pos 1)) 0 None

abbrev pub at_minus_half : Line
at_minus_half = line_of (grid_at None (Some (negsuc 0)) (negsuc 0)) 0 None

-- a branch of x at a half is lawful
abbrev pub HalfIsABranch : Type 0
HalfIsABranch = AreCheckSums trees frames sums × AreBranches trees frames sums (at_half ∷ [])

-- at minus a half it is none, though a row says so: no values that meet the assertions give x this one
pub record IsRowAlone (l : Line) : Type 0 where
  pub row : IsRowIn sums (IsBoundOf (IsFirstAtom trees frames)) l
  pub floor : IsBranchLine 0 (negsuc 0) l

abbrev pub MinusHalfIsNone : Type 0
MinusHalfIsNone = IsRowAlone at_minus_half × (AreBranches trees frames sums (at_minus_half ∷ []) → ⊥)
