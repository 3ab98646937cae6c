-- Truth values are in every range.
use Rattle.std.proofs.Common.{◌≡◌, List, [], ◌∷◌, Bool, true, refl, arith}
use Rattle.smt_meaning.specs.declared.values.Value.{Value}
use Rattle.smt_meaning.specs.declared.terms.Operator.TheVariants.{And, Or, Xor}
use Rattle.smt_meaning.specs.Term.{right_assoc, on_truths, implies, in_range, all_in_range, partials_from, partials_of}
use Rattle.model_eval.specs.Fitted.{fitted_fold, fitted_op}

truths_fit_from : (f : Bool → Bool → Bool) (v : Value) (ws : List Value) → all_in_range (partials_from (on_truths f) v ws) ≡ true
truths_fit_from f v [] = refl
truths_fit_from f v (w ∷ ws) = truths_fit_from f (on_truths f v w) ws

pub truths_fit : (f : Bool → Bool → Bool) (vs : List Value) → all_in_range (partials_of (on_truths f) vs) ≡ true
truths_fit f [] = refl
truths_fit f (v ∷ vs) = truths_fit_from f v vs

pub right_fits : (vs : List Value) → all_in_range vs ≡ true → in_range (right_assoc (on_truths implies) vs) ≡ true
right_fits [] h = refl
right_fits (v ∷ []) h = grind arith
right_fits (v ∷ w ∷ ws) h = refl

pub fold_and : (vs : List Value) → fitted_fold And vs ≡ fitted_op And vs
fold_and vs = rw truths_fit

pub fold_or : (vs : List Value) → fitted_fold Or vs ≡ fitted_op Or vs
fold_or vs = rw truths_fit

pub fold_xor : (vs : List Value) → fitted_fold Xor vs ≡ fitted_op Xor vs
fold_xor vs = rw truths_fit
