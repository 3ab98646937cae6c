-- Where the search for a least value has come to.
use Rattle.std.specs.Prelude.{◌≡◌, refl, ⊤, ℕ, ◌-◌, ◌^◌, ◌≤◌, ℤ, pos, ◌+ℤ◌, ◌≤ℤ◌, ◌<ℤ◌, List, [], ◌∷◌}
use Rattle.smt_meaning.specs.declared.tokens.Token.{Token}
use Rattle.smt_meaning.specs.Goal.{is_itself, is_at_most, least_number}
use Rattle.smt_meaning.specs.Interpretation.{Interprets}
use Rattle.smt_meaning.specs.Least.{IsModelFor, IsUnfound, asking, value_in}
use Rattle.smt_meaning.specs.Stack.{Frame, HasNoModel, Holds, signature_of}
use Rattle.smt_meaning.specs.Term.{Tree, Interpretation, value, number_of}
use Rattle.goal_search.specs.declared.text.Ask.{Ask}
use Rattle.goal_search.specs.declared.text.Ask.TheVariants.{Itself, AtMost, BelowLeast}
use Rattle.goal_search.specs.declared.point.Point.{Point}
use Rattle.goal_search.specs.declared.point.Step.{Step}
use Rattle.goal_search.specs.declared.point.Step.TheVariants.{Lower, Nothing, Unknown}
use Rattle.goal_search.specs.Asks.{asked}

-- how far the greatest number of the range is above the least one
abbrev pub most_above : ℕ
most_above = 2 ^ 128 - 2

-- the number that is so far above the least one
unfoldable pub number_at : ℕ → ℤ
number_at n = least_number +ℤ pos n

pub number_at_is : (n : ℕ) → number_at n ≡ least_number +ℤ pos n
unfolding number_at
number_at_is n = refl

-- a model, and where the value of the term in it is
pub record IsPoint (frames : List Frame) (text : List Token) (t : Tree) (p : Point) : Type 0 where
  pub model : IsModelFor frames text t p.model
  pub value_is : value_in p.model t ≡ number_at p.above
  pub within : p.above ≤ most_above

-- in each interpretation that makes the assertions true the value of the term is above this number
abbrev pub IsFloor : List Frame → Tree → ℤ → Type 0
IsFloor frames t k = (J : Interpretation) → Interprets (signature_of frames) J → Holds J frames → k <ℤ number_of (value J t)

-- a number is as it was asked for
abbrev pub IsAsAsked : Ask → ℤ → Type 0
IsAsAsked Itself n = ⊤
IsAsAsked (AtMost k) n = n ≤ℤ k
IsAsAsked BelowLeast n = n <ℤ least_number

-- what comes of what is asked: a model that has it, that there is none, or what each worker shows
abbrev pub IsStep : ℕ → List Tree → List Frame → ℤ → List Token → Tree → Ask → Step → Type 0
IsStep workers ts frames limit text t ask (Lower p) = IsPoint frames text t p × IsAsAsked ask (number_at p.above)
IsStep workers ts frames limit text t ask Nothing = HasNoModel (asking frames (asked text t ask))
IsStep workers ts frames limit text t ask (Unknown rs) = IsUnfound workers ts frames limit (asked text t ask) rs

-- what comes of asking for a value that is at most so far above the least number
abbrev pub IsLowered : ℕ → List Tree → List Frame → ℤ → List Token → Tree → ℕ → Step → Type 0
IsLowered workers ts frames limit text t bound (Lower p) = IsPoint frames text t p × (p.above ≤ bound)
IsLowered workers ts frames limit text t bound Nothing = IsFloor frames t (number_at bound)
IsLowered workers ts frames limit text t bound (Unknown rs) = IsUnfound workers ts frames limit (is_itself text t ∷ is_at_most text t (number_at bound) ∷ []) rs
