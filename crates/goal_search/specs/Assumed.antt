-- What comes of a check under assumptions.
use Rattle.std.specs.Prelude.{◌≡◌, ℕ, ℤ, List, [], ◌∷◌, ◌++◌, map, All, Result, Ok, Err}
use Rattle.smt_meaning.specs.declared.tokens.Token.{Token}
use Rattle.smt_meaning.specs.Sorts.{Scope, done}
use Rattle.smt_meaning.specs.Stack.{Assertion as Asserted, Frame, HasNoModel}
use Rattle.smt_meaning.specs.StackCommand.{Stack, assumes, judged, changed}
use Rattle.smt_meaning.specs.State.{State, frame_of}
use Rattle.scope_stack.specs.declared.answers.Assertion.{Assertion}
use Rattle.scope_stack.specs.declared.answers.StackError.{StackError}
use Rattle.scope_stack.specs.declared.answers.StackError.TheVariants.{Refused, Memory}
use Rattle.scope_stack.specs.Carries.{IsRefused, assumption}
use Rattle.scope_stack.specs.Inside.{asserted_by, IsWithin}
use Rattle.scope_stack.specs.Raised.{MayAssertAbove}
use Rattle.goal_search.specs.declared.answer.Answer.{Answer}
use Rattle.goal_search.specs.declared.assuming.Assumed.{Assumed}
use Rattle.goal_search.specs.Checked.{Answers, WhereUnsat}

-- it answers each check of this stack with these levels above it, by so many workers, under this limit of units
abbrev pub IsAnswerTo : Stack → List Frame → ℕ → ℤ → Answer → Type 0
IsAnswerTo new above workers limit a =
    (s : State) → s.stack ≡ new → s.above ≡ above → s.settings.workers ≡ workers → s.options.reproducible_resource_limit ≡ limit → Answers s a

-- under a level of these assumptions there is no model, and they may be asserted above the stack again
pub record IsRefutedUnder (s : Stack) (xs : List Assertion) : Type 0 where
  pub none : HasNoModel (s.frames ++ frame_of (map (asserted_by s.trees) xs) ∷ [])
  pub again : MayAssertAbove xs s

-- the terms are judged to be assumed, and the check is answered; their trees join the list, and these are the assumptions
pub record IsCheckedUnder (workers : ℕ) (limit : ℤ) (texts : List (List Token)) (old : Stack) (a : Assumed) (new : Stack) : Type 0 where
  pub assumed : List Asserted
  pub scope : Scope
  pub is_judged : judged (assumption texts) old ≡ done (assumes assumed) scope
  pub new_is : new ≡ changed old (assumes assumed) scope
  pub assumptions : map (asserted_by new.trees) a.assumptions ≡ assumed
  pub within : All (IsWithin new.trees) a.assumptions
  pub answer : IsAnswerTo new (frame_of assumed ∷ []) workers limit a.answer
  pub refuted : WhereUnsat a.answer.mode (IsRefutedUnder new a.assumptions)

-- a check under assumptions is answered or refused, or memory is wanting
abbrev pub ChecksUnder : ℕ → ℤ → List (List Token) → Stack → Result Assumed StackError → Stack → Type 0
ChecksUnder workers limit texts old (Ok a) new = IsCheckedUnder workers limit texts old a new
ChecksUnder workers limit texts old (Err (Refused r)) new = IsRefused (assumption texts) r old new
ChecksUnder workers limit texts old (Err Memory) new = new ≡ old
