-- Terms with their values, as they are printed.
use Rattle.std.specs.Prelude.{◌≡◌, Bool, false, List, [], ◌∷◌}
use Rattle.smt_meaning.specs.declared.tokens.Token.{Token}
use Rattle.smt_meaning.specs.declared.values.Value.{Value}
use Rattle.smt_meaning.specs.declared.answers.TermValue.{TermValue}
use Rattle.smt_meaning.specs.Declaration.{Declaration}
use Rattle.smt_meaning.specs.State.{printed}
use Rattle.scope_stack.specs.declared.answers.Asked.{Asked}
use Rattle.model_eval.specs.declared.EvalError.{EvalError}
use Rattle.model_eval.specs.declared.EvalError.TheVariants.{Range, Memory}

-- each term as it was given, with its value, of the sort that it was found to have
abbrev pub shown_terms : List Declaration → List (List Token) → List Asked → List Value → List TermValue
shown_terms ds [] rest vs = []
shown_terms ds (t ∷ ts) [] vs = []
shown_terms ds (t ∷ ts) (a ∷ rest) [] = []
shown_terms ds (t ∷ ts) (a ∷ rest) (v ∷ vs) = record { term = t; value = printed ds a.sort v } ∷ shown_terms ds ts rest vs

-- why terms aren't evaluated: not all of them fit, or memory is wanting
abbrev pub IsUnfit : EvalError → Bool → Type 0
IsUnfit (Range place) fit = fit ≡ false
IsUnfit Memory fit = Unit {0}
