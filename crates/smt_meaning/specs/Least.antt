-- The least value of a term in the models of levels, or what is known of it.
use Rattle.std.specs.Prelude.{◌≡◌, ℕ, ℤ, ◌≤ℤ◌, ◌<ℤ◌, List, [], ◌∷◌, ◌++◌, map, Option, Some, None}
use Rattle.smt_meaning.specs.declared.tokens.Token.{Token}
use Rattle.smt_meaning.specs.declared.values.Table.{Table}
use Rattle.smt_meaning.specs.declared.reports.Report.{Report}
use Rattle.smt_meaning.specs.declared.replies.Best.{Best}
use Rattle.smt_meaning.specs.Term.{Tree, Interpretation, value, number_of}
use Rattle.smt_meaning.specs.Interpretation.{Interprets, meaning}
use Rattle.smt_meaning.specs.Sorts.{with_all}
use Rattle.smt_meaning.specs.Stack.{Assertion, Frame, signature_of, Holds}
use Rattle.smt_meaning.specs.State.{frame_of}
use Rattle.smt_meaning.specs.Report.{AreReports}
use Rattle.smt_meaning.specs.Goal.{is_itself, is_at_most, is_below, least_number}
use Rattle.smt_meaning.specs.Model.{IsModel}

-- a level above these asserts what is asked for
abbrev pub asking : List Frame → List Assertion → List Frame
asking frames xs = frames ++ frame_of xs ∷ []

abbrev pub terms_asked : List Assertion → List Tree
terms_asked xs = map (λ (a : Assertion). a.term) xs

-- it isn't found whether the levels with what is asked for have a model: the terms that are new in it come last among those that the reports speak of
abbrev pub IsUnfound : ℕ → List Tree → List Frame → ℤ → List Assertion → List Report → Type 0
IsUnfound workers ts frames limit xs rs = AreReports workers (with_all ts (terms_asked xs)) (asking frames xs) limit rs

abbrev pub value_in : List Table → Tree → ℤ
value_in i t = number_of (value (meaning i) t)

-- a model in which the partial results of the term, as it is written, are within the range too
abbrev pub IsModelFor : List Frame → List Token → Tree → List Table → Type 0
IsModelFor frames text t i = IsModel (asking frames (is_itself text t ∷ [])) i

-- in this model the term has this value, and in no interpretation that makes the assertions true is it less
pub record IsMinimum (frames : List Frame) (text : List Token) (t : Tree) (v : ℤ) (i : List Table) : Type 0 where
  pub model : IsModelFor frames text t i
  pub value_is : value_in i t ≡ v
  pub least : (J : Interpretation) → Interprets (signature_of frames) J → Holds J frames → v ≤ℤ number_of (value J t)

-- Nothing was found; or a model, and nothing was found of a bound below its value; or a model in which the term has the least number of the range for its value, and
-- nothing was found of a value below that.
abbrev pub IsBestBy : ℕ → List Tree → List Frame → ℤ → List Token → Tree → Option (List Table) → Option ℤ → List Report → Type 0
IsBestBy workers ts frames limit text t None None rs = IsUnfound workers ts frames limit (is_itself text t ∷ []) rs
IsBestBy workers ts frames limit text t None (Some b) rs = ⊥
IsBestBy workers ts frames limit text t (Some i) (Some b) rs =
    IsModelFor frames text t i × (b <ℤ value_in i t) × IsUnfound workers ts frames limit (is_itself text t ∷ is_at_most text t b ∷ []) rs
IsBestBy workers ts frames limit text t (Some i) None rs =
    IsModelFor frames text t i × (value_in i t ≡ least_number) × IsUnfound workers ts frames limit (is_itself text t ∷ is_below text t least_number ∷ []) rs

abbrev pub IsBest : ℕ → List Tree → List Frame → ℤ → List Token → Tree → Best → Type 0
IsBest workers ts frames limit text t b = IsBestBy workers ts frames limit text t b.model b.bound b.reports
