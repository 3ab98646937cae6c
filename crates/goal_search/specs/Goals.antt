-- What a least value is asked of, and what is found of it.
use Rattle.std.specs.Prelude.{◌≡◌, ℕ, ◌+◌, ◌<◌, ◌≤◌, ℤ, List, [], length}
use Rattle.smt_meaning.specs.declared.tokens.Token.{Token}
use Rattle.smt_meaning.specs.declared.values.Sort.TheVariants.{Int}
use Rattle.smt_meaning.specs.Reading.{IsSExpr}
use Rattle.smt_meaning.specs.Sexp.{sexp}
use Rattle.smt_meaning.specs.Sorts.{judge, done}
use Rattle.smt_meaning.specs.Stack.{Frame, HasNoModel, depth}
use Rattle.smt_meaning.specs.StackCommand.{Stack, in_question, scope_of, asked_terms, most_levels, most_terms}
use Rattle.smt_meaning.specs.Term.{Tree, tree_at}
use Rattle.smt_meaning.specs.Least.{IsMinimum, IsBest}
use Rattle.term_store.specs.Terms.{AreComplete}
use Rattle.goal_search.specs.declared.minimum.LeastValue.{LeastValue}
use Rattle.goal_search.specs.declared.minimum.LeastValue.TheVariants.{Minimum, Unsat, Unknown}

-- the text is judged to be the Int term at this place, whose trees are all in the list, and there is room for what is asked of it
pub record IsGoal (s : Stack) (text : List Token) (place : ℕ) : Type 0 where
  pub written : IsSExpr text
  pub complete : AreComplete s.trees
  pub is_judged : judge in_question [] (sexp text) (scope_of s) ≡ done (record { tree = tree_at s.trees place; sort = Int }) (scope_of s)
  pub within : place < length s.trees
  pub room : length s.trees + asked_terms ≤ most_terms
  pub level : depth s.frames < most_levels

-- the least value in a model, that there is no model, or the best that was found
abbrev pub IsLeast : ℕ → List Tree → List Frame → ℤ → List Token → Tree → LeastValue → Type 0
IsLeast workers ts frames limit text t (Minimum v i) = IsMinimum frames text t v i
IsLeast workers ts frames limit text t Unsat = HasNoModel frames
IsLeast workers ts frames limit text t (Unknown b) = IsBest workers ts frames limit text t b
