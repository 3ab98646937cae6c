-- The stack of (assert (and (<= 0 x) (<= x 5))).
use Rattle.std.specs.Prelude.{pos, List, [], ◌∷◌}
use Rattle.smt_meaning.specs.declared.terms.Operator.TheVariants.{And, AtMost as IsAtMost}
use Rattle.smt_meaning.specs.declared.terms.Head.TheVariants.{Numeral, Theory}
use Rattle.smt_meaning.specs.Term.{Tree, node, none, more}
use Rattle.smt_meaning.specs.Stack.{Frame}
use Rattle.report_laws.specs.Five.{x, five, constant_x}
use Rattle.report_laws.specs.Five as Five
use Rattle.report_laws.specs.Boxed.{AreBoxed}

abbrev pub nought : Tree
nought = node (Numeral (pos 0)) none

abbrev pub low : Tree
low = node (Theory IsAtMost) (more nought (more x none))

abbrev pub high : Tree
high = node (Theory IsAtMost) (more x (more five none))

abbrev pub both : Tree
both = node (Theory And) (more low (more high none))

abbrev pub trees : List Tree
trees = nought ∷ x ∷ low ∷ five ∷ high ∷ both ∷ []

abbrev pub frames : List Frame
frames = record { declared = constant_x ∷ []; asserted = record { text = []; term = both } ∷ [] } ∷ []

-- its one leaf has a box
abbrev pub XIsBoxed : Type 0
XIsBoxed = AreBoxed trees frames

-- on the stack of (assert (<= 5 x)), without a greatest value, x has none
abbrev pub FiveIsUnboxed : Type 0
FiveIsUnboxed = AreBoxed Five.trees Five.frames → ⊥
