-- The names of commands, in groups.
use Rattle.std.specs.Prelude.{ℕ, List, [], ◌∷◌, ◌++◌, map, codes}
use Rattle.smt_command.specs.declared.names.CommandName.{CommandName}
use Rattle.smt_command.specs.declared.names.CommandName.TheVariants.{SetLogic, SetOption, GetOption, SetInfo, GetInfo, Echo, Exit, Reset, ResetAssertions, DeclareSort, DefineSort, DeclareConst, DeclareFun, DefineFun, Assert, CheckSat, Push, Pop, GetValue, GetModel, GetAssertions, CheckSatAssuming, GetAssignment, GetUnsatCore, GetUnsatAssumptions, Minimize, LeftOut}

abbrev pub setting_names : List (List ℕ × CommandName)
setting_names =
    (codes "set-logic", SetLogic) ∷ (codes "set-option", SetOption) ∷ (codes "get-option", GetOption) ∷ (codes "set-info", SetInfo) ∷ (codes "get-info", GetInfo) ∷ (codes "echo", Echo) ∷ []

abbrev pub session_names : List (List ℕ × CommandName)
session_names =
    (codes "exit", Exit) ∷ (codes "reset", Reset) ∷ (codes "reset-assertions", ResetAssertions) ∷ []

abbrev pub declaration_names : List (List ℕ × CommandName)
declaration_names =
    (codes "declare-sort", DeclareSort) ∷ (codes "define-sort", DefineSort) ∷ (codes "declare-const", DeclareConst) ∷ (codes "declare-fun", DeclareFun) ∷ (codes "define-fun", DefineFun) ∷ []

abbrev pub stack_names : List (List ℕ × CommandName)
stack_names =
    (codes "assert", Assert) ∷ (codes "check-sat", CheckSat) ∷ (codes "push", Push) ∷ (codes "pop", Pop) ∷ []

abbrev pub answer_names : List (List ℕ × CommandName)
answer_names =
    (codes "get-value", GetValue) ∷ (codes "get-model", GetModel) ∷ (codes "get-assertions", GetAssertions) ∷ (codes "check-sat-assuming", CheckSatAssuming) ∷ (codes "get-assignment", GetAssignment) ∷ []

abbrev pub refutation_names : List (List ℕ × CommandName)
refutation_names =
    (codes "get-proof", LeftOut) ∷ (codes "get-unsat-core", GetUnsatCore) ∷ (codes "get-unsat-assumptions", GetUnsatAssumptions) ∷ []

abbrev pub left_out_names : List (List ℕ)
left_out_names =
    codes "define-fun-rec" ∷ codes "define-funs-rec" ∷ codes "declare-datatype" ∷ codes "declare-datatypes" ∷ []

abbrev pub left_out : List ℕ → List ℕ × CommandName
left_out n = (n, LeftOut)

-- no command of the standard
abbrev pub goal_names : List (List ℕ × CommandName)
goal_names = (codes "minimize", Minimize) ∷ []

-- every command with its name
unfoldable pub command_names : List (List ℕ × CommandName)
command_names = setting_names ++ (session_names ++ (declaration_names ++ (stack_names ++ (answer_names ++ (refutation_names ++ (map left_out left_out_names ++ goal_names))))))
