-- The value of a term by cases on how it is written, under an environment that `let` and parameters extend (SMT-LIB 2.6, section 5.3).
use Rattle.std.specs.Prelude.{ℕ, false, List, [], ◌∷◌, ◌++◌, pos, if◌then◌else◌, Option, Some, None, bytes_eq}
use Rattle.smt_meaning.specs.declared.values.Value.{Value}
use Rattle.smt_meaning.specs.declared.values.Value.TheVariants.{Truth, Whole}
use Rattle.smt_meaning.specs.declared.terms.Operator.{Operator}
use Rattle.smt_meaning.specs.declared.terms.Operator.TheVariants.{Divisible}
use Rattle.smt_meaning.specs.declared.tokens.Token.{Token}
use Rattle.smt_meaning.specs.declared.tokens.Token.TheVariants.{Numeral, Symbol, Reserved}
use Rattle.smt_meaning.specs.declared.tokens.Word.TheVariants.{Exclamation, Let}
use Rattle.smt_meaning.specs.Declaration.{Declaration}
use Rattle.smt_meaning.specs.Term.{Interpretation, operate, value_with}
use Rattle.smt_meaning.specs.Sexp.{Sexp, Sexps, word, group, end, ◌▸◌}
use Rattle.smt_meaning.specs.Signature.{look_up, find_function, operators}
use Rattle.smt_meaning.specs.Sorts.{decimal, head_number}

-- ---- the value of a name

-- the value that a variable has
pub record Binding : Type 0 where
  pub name : List ℕ
  pub value : Value

abbrev pub Environment : Type 0
Environment = List Binding

abbrev pub bound_value : List ℕ → Environment → Option Value
bound_value n [] = None
bound_value n (b ∷ bs) = if bytes_eq n b.name then Some b.value else bound_value n bs

-- what a declared or defined function makes of these arguments
abbrev pub declaration_value : Interpretation → Declaration → List Value → Value
declaration_value I d vs = elim d.body [ None ↦ I d.id vs | Some b ↦ value_with I vs b.term ]

abbrev pub declared_value : Interpretation → Option Declaration → List Value → Value
declared_value I None vs = Truth false
declared_value I (Some d) vs = declaration_value I d vs

abbrev pub operator_or_declared : Interpretation → Option Operator → Option Declaration → List Value → Value
operator_or_declared I (Some o) d vs = operate o vs
operator_or_declared I None d vs = declared_value I d vs

-- what the function of a name makes of these arguments
abbrev pub function_value : List Declaration → Interpretation → List ℕ → List Value → Value
function_value ds I n vs = operator_or_declared I (look_up n operators) (find_function n ds) vs

abbrev pub value_or : Option Value → Value → Value
value_or (Some v) w = v
value_or None w = w

-- ---- the value of a term under a signature, an interpretation and an environment

abbrev pub token_value : List Declaration → Interpretation → Environment → Token → Value
token_value ds I env (Symbol n) = value_or (bound_value n env) (function_value ds I n [])
token_value ds I env (Numeral cs) = Whole (pos (decimal cs))
token_value ds I env _ = Truth false

-- whether the number of a head divides
abbrev pub divisible_value : Option ℕ → List Value → Value
divisible_value (Some n) (v ∷ []) = operate Divisible (v ∷ Whole (pos n) ∷ [])
divisible_value _ vs = Truth false

abbrev mutual
  pub term_value : List Declaration → Interpretation → Environment → Sexp → Value
  term_value ds I env (word t) = token_value ds I env t
  term_value ds I env (group (word (Reserved Let) ▸ group bs ▸ b ▸ end)) = term_value ds I (binding_values ds I env bs ++ env) b
  term_value ds I env (group (word (Reserved Exclamation) ▸ t ▸ rest)) = term_value ds I env t
  term_value ds I env (group (word (Symbol n) ▸ ss)) = function_value ds I n (term_values ds I env ss)
  term_value ds I env (group (group hs ▸ ss)) = divisible_value (head_number hs) (term_values ds I env ss)
  term_value ds I env (group ss) = Truth false

  pub term_values : List Declaration → Interpretation → Environment → Sexps → List Value
  term_values ds I env end = []
  term_values ds I env (s ▸ ss) = term_value ds I env s ∷ term_values ds I env ss

  -- the values of bindings, each in the outer environment
  pub binding_values : List Declaration → Interpretation → Environment → Sexps → Environment
  binding_values ds I env end = []
  binding_values ds I env (group (word (Symbol n) ▸ t ▸ end) ▸ rest) = record { name = n; value = term_value ds I env t } ∷ binding_values ds I env rest
  binding_values ds I env (s ▸ rest) = binding_values ds I env rest
