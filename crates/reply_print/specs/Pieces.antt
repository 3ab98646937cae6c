-- Parts of texts.
use Rattle.std.specs.Prelude.{ℕ, Bool, true, false, not, ◌&&◌, List, [], ◌∷◌, ◌++◌, codes, if◌then◌else◌}
use Rattle.smt_meaning.specs.declared.tokens.Token.{Token}
use Rattle.smt_meaning.specs.declared.tokens.Token.TheVariants.{Enter, Leave}
use Rattle.smt_meaning.specs.declared.answers.PrintedValue.{PrintedValue}
use Rattle.smt_meaning.specs.declared.answers.PrintedRow.{PrintedRow}
use Rattle.smt_meaning.specs.declared.answers.PrintedFunction.{PrintedFunction}
use Rattle.smt_meaning.specs.Text.{token_text, value_text, parameter_name, symbol_text, listed, conjunction, equations_from, parameters_from}

-- ---- words

-- the reserved words of terms
abbrev pub term_words : List (List ℕ)
term_words =
    codes "!" ∷ codes "_" ∷ codes "as" ∷ codes "let" ∷ codes "exists" ∷ codes "forall" ∷ codes "match" ∷ codes "par" ∷ []

-- the standard's words for kinds of constants
abbrev pub constant_words : List (List ℕ)
constant_words = codes "BINARY" ∷ codes "DECIMAL" ∷ codes "HEXADECIMAL" ∷ codes "NUMERAL" ∷ codes "STRING" ∷ []

-- the commands for the solver as a whole
abbrev pub solver_words : List (List ℕ)
solver_words =
    codes "set-logic" ∷ codes "set-option" ∷ codes "get-option" ∷ codes "set-info" ∷ codes "get-info" ∷ codes "echo"
    ∷ codes "exit" ∷ codes "reset" ∷ codes "reset-assertions" ∷ []

-- the commands for the stack and its models
abbrev pub stack_words : List (List ℕ)
stack_words =
    codes "declare-sort" ∷ codes "define-sort" ∷ codes "declare-const" ∷ codes "declare-fun" ∷ codes "define-fun" ∷ codes "assert"
    ∷ codes "check-sat" ∷ codes "push" ∷ codes "pop" ∷ codes "get-value" ∷ codes "get-model" ∷ codes "get-assertions"
    ∷ codes "check-sat-assuming" ∷ codes "get-assignment" ∷ []

-- the commands that ask why there is no model, and those that are left out
abbrev pub left_out_words : List (List ℕ)
left_out_words =
    codes "get-proof" ∷ codes "get-unsat-core" ∷ codes "get-unsat-assumptions"
    ∷ codes "define-fun-rec" ∷ codes "define-funs-rec" ∷ codes "declare-datatype" ∷ codes "declare-datatypes" ∷ []

-- ---- tokens

abbrev pub is_enter : Token → Bool
is_enter Enter = true
is_enter _ = false

abbrev pub is_leave : Token → Bool
is_leave Leave = true
is_leave _ = false

-- the space before a token, where one stands before any token but a closing parenthesis
abbrev pub space_before : Bool → Token → List ℕ
space_before gap t = if gap && not (is_leave t) then 32 ∷ [] else []

-- tokens one after another, of which the first may have a space before it
abbrev pub flat_text : Bool → List Token → List ℕ
flat_text gap [] = []
flat_text gap (t ∷ ts) = space_before gap t ++ token_text t ++ flat_text (not (is_enter t)) ts

-- ---- lists

-- a space, where this isn't the first of a list
abbrev pub space_unless : Bool → List ℕ
space_unless first = if first then [] else 32 ∷ []

-- what is still to come of a list, its first part or not
abbrev pub rest_of_list : Bool → List (List ℕ) → List ℕ
rest_of_list first [] = []
rest_of_list first (t ∷ ts) = space_unless first ++ t ++ rest_of_list false ts

-- ---- models

-- (x!k S)
abbrev pub parameter_text : ℕ → List ℕ → List ℕ
parameter_text k s = listed (parameter_name k ∷ symbol_text s ∷ [])

-- (= x!k a)
abbrev pub equation_text : ℕ → PrintedValue → List ℕ
equation_text k v = listed (codes "=" ∷ parameter_name k ∷ value_text v ∷ [])

-- (ite C v and a space
abbrev pub row_head : PrintedRow → List ℕ
row_head r = codes "(ite " ++ (conjunction (equations_from 0 r.arguments) ++ 32 ∷ (value_text r.value ++ 32 ∷ []))

-- (define-fun N (P ..) R
abbrev pub signature_text : PrintedFunction → List ℕ
signature_text f =
    codes "(define-fun " ++ (symbol_text f.name ++ 32 ∷ (listed (parameters_from 0 f.arguments) ++ 32 ∷ symbol_text f.result))
