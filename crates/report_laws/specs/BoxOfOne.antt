-- The stack of (assert (<= 0 x 1)).
use Rattle.std.specs.Prelude.{◌<◌, ℤ, pos, negsuc, List, [], ◌∷◌, Contains}
use Rattle.fraction128.specs.declared.Line.{Line}
use Rattle.smt_meaning.specs.declared.terms.Operator.TheVariants.{AtMost as IsAtMost}
use Rattle.smt_meaning.specs.declared.terms.Head.TheVariants.{Numeral, Theory}
use Rattle.smt_meaning.specs.declared.clauses.Summand.{Summand}
use Rattle.smt_meaning.specs.declared.clauses.Atom.{Atom}
use Rattle.smt_meaning.specs.declared.clauses.Atom.TheVariants.{Truth, AtMost, Same}
use Rattle.smt_meaning.specs.declared.reports.Unit.{Unit as Spent}
use Rattle.smt_meaning.specs.declared.reports.Cause.TheVariants.{Units}
use Rattle.smt_meaning.specs.Term.{Tree, node, none, more}
use Rattle.smt_meaning.specs.Stack.{Frame}
use Rattle.smt_meaning.specs.CheckAtoms.{IsFirstAtom}
use Rattle.smt_meaning.specs.Report.{most_units, Shows}
use Rattle.report_laws.specs.OneLeaf.{NothingLeaves}
use Rattle.report_laws.specs.Five.{x, constant_x}

abbrev pub nought : Tree
nought = node (Numeral (pos 0)) none

abbrev pub one : Tree
one = node (Numeral (pos 1)) none

abbrev pub chain : Tree
chain = node (Theory IsAtMost) (more nought (more x (more one none)))

abbrev pub trees : List Tree
trees = nought ∷ x ∷ one ∷ chain ∷ []

abbrev pub frames : List Frame
frames = record { declared = constant_x ∷ []; asserted = record { text = []; term = chain } ∷ [] } ∷ []

-- ---- its atoms

abbrev pub plus : List Summand
plus = record { coefficient = pos 1; term = 1 } ∷ []

abbrev pub minus : List Summand
minus = record { coefficient = negsuc 0; term = 1 } ∷ []

-- the truth of the comparison, its bounds on x and on nothing, and which parts are the same
abbrev pub atoms : List Atom
atoms =
    Truth 3 ∷ AtMost minus (pos 0) ∷ AtMost plus (pos 1) ∷ AtMost plus (pos 0) ∷ AtMost minus (negsuc 0)
    ∷ AtMost [] (pos 0) ∷ AtMost [] (pos 1) ∷ AtMost [] (negsuc 0)
    ∷ Same 0 0 ∷ Same 0 1 ∷ Same 0 2 ∷ Same 1 0 ∷ Same 1 1 ∷ Same 1 2 ∷ Same 2 0 ∷ Same 2 1 ∷ Same 2 2 ∷ Same 3 3 ∷ []

abbrev pub AtomsAreThese : Type 0
AtomsAreThese = (a : Atom) → IsFirstAtom trees frames a → Contains atoms a

-- so under a limit above 18 + 3^18, or without one, no worker shows spent units
abbrev pub SmallBoxIsNotSpent : Type 0
SmallBoxIsNotSpent = (limit : ℤ) (branches : List Line) (us : List Spent) → 387420507 < most_units limit → Shows trees frames limit branches (Units us) → ⊥

-- and no worker shows that a number left the range
abbrev pub SmallBoxIsInRange : Type 0
SmallBoxIsInRange = NothingLeaves trees frames
