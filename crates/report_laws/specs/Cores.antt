-- A core of three assertions, and inventions that are none.
use Rattle.std.specs.Prelude.{ℕ, Bool, true, false, List, [], ◌∷◌, pos, codes, None}
use Rattle.smt_meaning.specs.declared.values.Sort.TheVariants.{Bool as Truths}
use Rattle.smt_meaning.specs.declared.values.Value.TheVariants.{Truth}
use Rattle.smt_meaning.specs.declared.values.Table.{Table}
use Rattle.smt_meaning.specs.declared.terms.Operator.TheVariants.{Not}
use Rattle.smt_meaning.specs.declared.terms.Head.TheVariants.{Symbol as Function, Theory}
use Rattle.smt_meaning.specs.declared.reports.Cause.TheVariants.{Units}
use Rattle.smt_meaning.specs.declared.reports.Report.{Report}
use Rattle.smt_meaning.specs.declared.replies.Reason.{Reason}
use Rattle.smt_meaning.specs.declared.replies.Reason.TheVariants.{Model, Reports}
use Rattle.smt_meaning.specs.declared.replies.Held.{Held}
use Rattle.smt_meaning.specs.Declaration.{Declaration}
use Rattle.smt_meaning.specs.Term.{Tree, node, none, more}
use Rattle.smt_meaning.specs.Stack.{Frame}
use Rattle.smt_meaning.specs.Core.{IsReduced}

-- ---- p, q and (not p) are asserted, and each may go

abbrev pub truth_constant : ℕ → List ℕ → Declaration
truth_constant id n = record { id = id; name = n; rank = record { arguments = []; result = Truths }; body = None; is_sort = false; is_name = false }

abbrev pub p_tree : Tree
p_tree = node (Function 0) none

abbrev pub q_tree : Tree
q_tree = node (Function 1) none

abbrev pub not_p : Tree
not_p = node (Theory Not) (more p_tree none)

abbrev pub three : List Frame
three =
    record {
      declared = truth_constant 0 (codes "p") ∷ truth_constant 1 (codes "q") ∷ [];
      asserted = record { text = []; term = p_tree } ∷ record { text = []; term = q_tree } ∷ record { text = []; term = not_p } ∷ [];
    } ∷ []

abbrev pub all_three : List ℕ
all_three = 0 ∷ 1 ∷ 2 ∷ []

-- of a check by so many workers with five units these are held
abbrev pub IsCoreOfThree : ℕ → List Held → Type 0
IsCoreOfThree workers hs = IsReduced workers [] three (pos 5) all_three hs

-- both constants have these values
abbrev pub values : Bool → Bool → List Table
values b c = record { symbol = 0; rows = []; default = Truth b } ∷ record { symbol = 1; rows = []; default = Truth c } ∷ []

abbrev pub held_by_model : ℕ → List Table → Held
held_by_model place i = record { place = place; why = Model i }

-- p, and (not p), each with a model of the others
abbrev pub core : List Held
core = held_by_model 0 (values false true) ∷ held_by_model 2 (values true true) ∷ []

abbrev pub ClashIsACore : Type 0
ClashIsACore = (workers : ℕ) → IsCoreOfThree workers core

-- ---- inventions

-- p alone has a model
abbrev pub OneIsNoCore : Type 0
OneIsNoCore = (workers : ℕ) (i : List Table) → IsCoreOfThree workers (held_by_model 0 i ∷ []) → ⊥

abbrev pub all_held : Reason → Reason → Reason → List Held
all_held x y z = record { place = 0; why = x } ∷ record { place = 1; why = y } ∷ record { place = 2; why = z } ∷ []

-- without q there is no model
abbrev pub NoModelHoldsQ : Type 0
NoModelHoldsQ = (workers : ℕ) (x z : Reason) (i : List Table) → IsCoreOfThree workers (all_held x (Model i) z) → ⊥

abbrev pub nothing_spent : Report
nothing_spent = record { worker = 0; cause = Units []; branches = [] }

-- a worker that spent none of its five units shows nothing, whatever others show
abbrev pub NoInventionHoldsQ : Type 0
NoInventionHoldsQ = (workers : ℕ) (x z : Reason) (others : List Report) → IsCoreOfThree workers (all_held x (Reports (nothing_spent ∷ others)) z) → ⊥
