-- What follows a name that stands in a table.
use Rattle.std.proofs.Common.{◌≡◌, ℕ, List, [], ◌∷◌, ap, sym, ◌∙◌, refl, Bool, true, false, Option, Some, None}
use Rattle.std.specs.Prelude.{if◌then◌else◌, bytes_eq}
use Rattle.smt_meaning.specs.declared.tokens.Token.TheVariants.{Symbol}
use Rattle.proof_meaning.specs.declared.proof.Step.{Step}
use Rattle.smt_meaning.specs.Sexp.{Sexps, word, group, ◌▸◌}
use Rattle.smt_meaning.specs.Signature.{look_up}
use Rattle.proof_meaning.specs.Reading.{with, step_read}
use Rattle.proof_read.specs.declared.read_names.StepName.{StepName}
use Rattle.proof_read.specs.ReadNames.{step_names, step_form}

abbrev under : {A B : Type 0} → (A → B) → List (List ℕ × A) → List (List ℕ × B)
under g [] = []
under g (p ∷ ps) = (p.0, g p.1) ∷ under g ps

look_up_under : {A B : Type 0} (g : A → B) (n : List ℕ) (ps : List (List ℕ × A)) → look_up n (under g ps) ≡ with (look_up n ps) (λ a. Some (g a))
look_up_under {A = A} {B = B} g n [] = refl
look_up_under {A = A} {B = B} g n (p ∷ ps) = ap (λ o. if bytes_eq n p.0 then Some (g p.1) else o) (look_up_under g n ps) ∙ inside (bytes_eq n p.0) (look_up n ps)
  where
    inside : (b : Bool) (o : Option A) → (if b then Some (g p.1) else with o (λ a. Some (g a))) ≡ with (if b then Some p.1 else o) (λ a. Some (g a))
    inside true o = refl
    inside false o = refl

with_with : {A B C : Type 0} (o : Option A) (g : A → B) (k : B → Option C) → with (with o (λ a. Some (g a))) k ≡ with o (λ a. k (g a))
with_with {A = A} {B = B} {C = C} None g k = refl
with_with {A = A} {B = B} {C = C} (Some a) g k = refl

step_after_is : (n : List ℕ) (ss : Sexps) → step_read (group (word (Symbol n) ▸ ss)) ≡ with (look_up n step_names) (λ k. step_form k ss)
step_after_is n ss = ap (λ o. with o (λ (f : Sexps → Option Step). f ss)) (look_up_under step_form n step_names) ∙ with_with (look_up n step_names) step_form (λ (f : Sexps → Option Step). f ss)

pub step_named : (n : List ℕ) (k : StepName) (ss : Sexps) → Some k ≡ look_up n step_names → step_form k ss ≡ step_read (group (word (Symbol n) ▸ ss))
step_named n k ss e = ap (λ o. with o (λ j. step_form j ss)) e ∙ sym (step_after_is n ss)
