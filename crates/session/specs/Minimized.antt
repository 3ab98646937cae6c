-- What comes of the question for a least value.
use Rattle.std.specs.Prelude.{◌≡◌, ℕ, ◌+◌, ℤ, nat_le, nat_lt, List, [], ◌∷◌, ◌++◌, map, drop, codes, Option, Some, None, Result, Ok, Err, if◌then◌else◌}
use Rattle.smt_meaning.specs.declared.tokens.Token.{Token}
use Rattle.smt_meaning.specs.declared.tokens.Token.TheVariants.{Enter, Leave, Symbol}
use Rattle.smt_meaning.specs.declared.terms.Operator.TheVariants.{Equal}
use Rattle.smt_meaning.specs.declared.values.Sort.{Sort}
use Rattle.smt_meaning.specs.declared.values.Sort.TheVariants.{Int}
use Rattle.smt_meaning.specs.declared.refusals.Refusal.{Refusal}
use Rattle.smt_meaning.specs.declared.refusals.Refusal.TheVariants.{SortsDiffer, TooManyTerms, TooManyLevels}
use Rattle.smt_meaning.specs.Goal.{is_itself, pair_text, pair_tree}
use Rattle.smt_meaning.specs.MayReply.{MayMinimize}
use Rattle.smt_meaning.specs.Signature.{sort_eq}
use Rattle.smt_meaning.specs.Sorts.{Judging, done, with_all}
use Rattle.smt_meaning.specs.StackCommand.{Stack, Change, asked_terms, assumes, judged, minimize_term, most_levels, most_terms, scope_of}
use Rattle.smt_meaning.specs.State.{State}
use Rattle.smt_meaning.specs.Term.{Tree, tree_at}
use Rattle.scope_stack.specs.declared.answers.Asked.{Asked}
use Rattle.scope_stack.specs.declared.answers.Assertion.{Assertion}
use Rattle.scope_stack.specs.declared.answers.StackError.{StackError}
use Rattle.scope_stack.specs.declared.answers.StackError.TheVariants.{Refused, Memory}
use Rattle.scope_stack.specs.Carries.{IsAsked, IsRefused, assumption}
use Rattle.scope_stack.specs.Inside.{asserted_by}
use Rattle.scope_stack.specs.Raised.{MayAssertAbove}
use Rattle.scope_stack.specs.Shown.{AreAsserted}
use Rattle.goal_search.specs.declared.answer.Answer.{Answer}
use Rattle.goal_search.specs.declared.assuming.Assumed.{Assumed}
use Rattle.goal_search.specs.declared.minimum.LeastValue.{LeastValue}
use Rattle.goal_search.specs.Checked.{WhereUnsat}
use Rattle.goal_search.specs.Goals.{IsGoal, IsLeast}
use Rattle.session.specs.declared.above.Above.TheVariants.{Assumed as AssumedAbove}
use Rattle.session.specs.Refuted.{IsRefuted}

-- ---- the goal

abbrev pub minimization : List Token → ℕ → Judging Change
minimization text level = minimize_term level text

-- (= t t) is assumed
abbrev pub itself_assumed : List Token → ℕ → Judging Change
itself_assumed text = assumption (pair_text (codes "=") text text ∷ [])

-- (- t)
abbrev pub negation : List Token → List Token
negation text = Enter ∷ Symbol (codes "-") ∷ (text ++ Leave ∷ [])

-- why a term is no goal for which there is no room, where its negation is refused so
abbrev pub refusal_told : Refusal → Refusal
refusal_told (SortsDiffer n) = SortsDiffer (codes "minimize")
refusal_told r = TooManyTerms

-- why a term of this sort is no goal among so many terms at this depth, if it isn't
abbrev pub goal_refusal : Sort → ℕ → ℕ → Option Refusal
goal_refusal sort terms level =
    if sort_eq sort Int then (
    if nat_le (terms + asked_terms) most_terms then (if nat_lt level most_levels then None else Some TooManyLevels)
    else Some TooManyTerms
    )
    else Some (SortsDiffer (codes "minimize"))

-- the text was asked for and is a goal; what the command is judged to do is what assuming (= t t) is judged to do
pub record IsGoalAsked (text : List Token) (place : ℕ) (old new : Stack) : Type 0 where
  pub goal : IsGoal new text place
  pub asked : List Asked
  pub is_asked : IsAsked (text ∷ []) asked old new
  pub is_judged : judged (minimization text) old ≡ judged (itself_assumed text) new

abbrev pub AsksGoal : List Token → Stack → Result ℕ StackError → Stack → Type 0
AsksGoal text old (Ok place) new = IsGoalAsked text place old new
AsksGoal text old (Err (Refused r)) new = IsRefused (minimization text) r old new
AsksGoal text old (Err Memory) new = new ≡ old

-- ---- its assumption

-- copies of the stack's assertions after so many
abbrev pub AreAfter : ℕ → Stack → List Assertion → Type 0
AreAfter below s zs = (xs : List Assertion) × AreAsserted s xs × (zs ≡ drop below xs)

-- (= t t) is assumed so; its terms joined the list, and it may stand above the stack
pub record IsItselfAbove (text : List Token) (t : Tree) (old : Stack) (xs : List Assertion) (new : Stack) : Type 0 where
  pub new_is : new ≡ record old { trees = with_all old.trees (pair_tree Equal t t ∷ []) }
  pub is_judged : judged (itself_assumed text) old ≡ done (assumes (is_itself text t ∷ [])) (scope_of new)
  pub assumptions : map (asserted_by new.trees) xs ≡ is_itself text t ∷ []
  pub again : MayAssertAbove xs new

-- ---- the answer

-- it answers the question in each state of which this is found
abbrev pub IsAnswerByLeast : LeastValue → Answer → Type 0
IsAnswerByLeast v a =
    (s : State) (text : List Token) (t : Tree) → IsLeast s.settings.workers s.stack.trees s.stack.frames s.options.reproducible_resource_limit text t v
    → MayMinimize s text t a.reply a.kept (record s { mode = a.mode })

-- it answers the question of this stack, by so many workers, under this limit of units
abbrev pub IsAnswerToLeast : Stack → ℕ → ℤ → List Token → Tree → Answer → Type 0
IsAnswerToLeast new workers limit text t a =
    (s : State) → s.stack ≡ new → s.settings.workers ≡ workers → s.options.reproducible_resource_limit ≡ limit → MayMinimize s text t a.reply a.kept (record s { mode = a.mode })

-- the least value of a goal is sought, under this assumption
pub record IsMinimized (workers : ℕ) (limit : ℤ) (text : List Token) (t : Tree) (old : Stack) (a : Assumed) (new : Stack) : Type 0 where
  pub above : IsItselfAbove text t old a.assumptions new
  pub answer : IsAnswerToLeast new workers limit text t a.answer
  pub refuted : WhereUnsat a.answer.mode (IsRefuted new (AssumedAbove a.assumptions))

-- the text is a goal, and its least value is sought
pub record IsMinimizedUnder (workers : ℕ) (limit : ℤ) (text : List Token) (old : Stack) (a : Assumed) (new : Stack) : Type 0 where
  pub place : ℕ
  pub mid : Stack
  pub goal : IsGoalAsked text place old mid
  pub minimized : IsMinimized workers limit text (tree_at mid.trees place) mid a new

-- the question is answered or refused, or memory is wanting
abbrev pub MinimizesUnder : ℕ → ℤ → List Token → Stack → Result Assumed StackError → Stack → Type 0
MinimizesUnder workers limit text old (Ok a) new = IsMinimizedUnder workers limit text old a new
MinimizesUnder workers limit text old (Err (Refused r)) new = IsRefused (minimization text) r old new
MinimizesUnder workers limit text old (Err Memory) new = new ≡ old
