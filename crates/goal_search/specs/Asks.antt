-- What is asked of the value of a goal.
use Rattle.std.specs.Prelude.{◌≡◌, ⊤, ℕ, ◌^◌, ◌-◌, pos, ◌≤ℤ◌, List, [], ◌∷◌, codes}
use Rattle.smt_meaning.specs.declared.tokens.Token.{Token}
use Rattle.smt_meaning.specs.Goal.{is_itself, is_at_most, is_below, least_number, number_text, pair_text}
use Rattle.smt_meaning.specs.Least.{terms_asked}
use Rattle.smt_meaning.specs.Sorts.{done, with_all}
use Rattle.smt_meaning.specs.Stack.{Assertion}
use Rattle.smt_meaning.specs.StackCommand.{Stack, assumes, judged, scope_of, assume_terms}
use Rattle.smt_meaning.specs.Term.{Tree, tree_at}
use Rattle.goal_search.specs.declared.text.Ask.{Ask}
use Rattle.goal_search.specs.declared.text.Ask.TheVariants.{Itself, AtMost, BelowLeast}
use Rattle.goal_search.specs.Goals.{IsGoal}

-- what a level above the stack asserts where this is asked
abbrev pub asked : List Token → Tree → Ask → List Assertion
asked text t Itself = is_itself text t ∷ []
asked text t (AtMost k) = is_itself text t ∷ is_at_most text t k ∷ []
asked text t BelowLeast = is_itself text t ∷ is_below text t least_number ∷ []

-- a bound is in the range
abbrev pub IsInRange : Ask → Type 0
IsInRange Itself = ⊤
IsInRange (AtMost k) = (least_number ≤ℤ k) × (k ≤ℤ pos (2 ^ 127 - 1))
IsInRange BelowLeast = ⊤

-- its texts; they don't depend on the tree
abbrev pub asked_texts : List Token → Ask → List (List Token)
asked_texts text Itself = pair_text (codes "=") text text ∷ []
asked_texts text (AtMost k) = pair_text (codes "=") text text ∷ pair_text (codes "<=") text (number_text k) ∷ []
asked_texts text BelowLeast = pair_text (codes "=") text text ∷ pair_text (codes "<") text (number_text least_number) ∷ []

-- what is asked of a goal is judged to be assumed so, and the new terms join the list
abbrev pub AsksAreAssumed : Type 0
AsksAreAssumed =
    (s : Stack) (text : List Token) (place : ℕ) (ask : Ask) → IsGoal s text place → IsInRange ask
    → judged (λ level. assume_terms level (asked_texts text ask)) s
    ≡ done (assumes (asked text (tree_at s.trees place) ask)) (record (scope_of s) { trees = with_all s.trees (terms_asked (asked text (tree_at s.trees place) ask)) })
