-- Levels over one proposition: it is declared, then stated, and then denied a level above.
use Rattle.std.specs.Prelude.{ℕ, List, [], ◌∷◌, None, Some, false}
use Rattle.smt_meaning.specs.declared.clauses.Clause.{Clause}
use Rattle.smt_meaning.specs.declared.terms.Head.TheVariants.{Theory, Symbol as Function}
use Rattle.smt_meaning.specs.declared.terms.Operator.TheVariants.{Not}
use Rattle.smt_meaning.specs.declared.tokens.Token.{Token}
use Rattle.smt_meaning.specs.declared.tokens.Token.TheVariants.{Enter, Leave, Symbol}
use Rattle.smt_meaning.specs.declared.values.Sort.TheVariants.{Bool as Truths}
use Rattle.smt_meaning.specs.Declaration.{Declaration}
use Rattle.smt_meaning.specs.Stack.{Frame, empty_frame}
use Rattle.smt_meaning.specs.Term.{Tree, node, none, more}
use Rattle.race_model.specs.Base.{Base}
use Rattle.race_model.specs.declared.event.Addition.{Addition}

-- p, as a name
abbrev pub p_name : List ℕ
p_name = 112 ∷ []

-- not, as a name
abbrev pub not_name : List ℕ
not_name = 110 ∷ 111 ∷ 116 ∷ []

abbrev pub p : Declaration
p = record { id = 0; name = p_name; rank = record { arguments = []; result = Truths }; body = None; is_sort = false; is_name = false }

abbrev pub p_tree : Tree
p_tree = node (Function 0) none

abbrev pub not_p_tree : Tree
not_p_tree = node (Theory Not) (more p_tree none)

abbrev pub p_text : List Token
p_text = Symbol p_name ∷ []

abbrev pub not_p_text : List Token
not_p_text = Enter ∷ Symbol not_name ∷ Symbol p_name ∷ Leave ∷ []

-- an assertion that declares nothing and gives no names
abbrev pub asserting : List Token → ℕ → Addition
asserting text term = record { declared = []; formula = Some (record { text = text; term = term }); named = [] }

-- the clause without literals, at level 1
abbrev pub empty_at_one : Clause
empty_at_one = record { literals = []; level = 1 }

abbrev pub over : List Frame → Base
over frames = record { trees = p_tree ∷ not_p_tree ∷ []; frames = frames }

abbrev pub stating : Frame
stating = record { declared = p ∷ []; asserted = record { text = p_text; term = p_tree } ∷ [] }

abbrev pub denying : Frame
denying = record { declared = []; asserted = record { text = not_p_text; term = not_p_tree } ∷ [] }

abbrev pub declared : Base
declared = over (record { declared = p ∷ []; asserted = [] } ∷ [])

abbrev pub stated : Base
stated = over (stating ∷ [])

abbrev pub raised : Base
raised = over (stating ∷ empty_frame ∷ [])

abbrev pub denied : Base
denied = over (stating ∷ denying ∷ [])
