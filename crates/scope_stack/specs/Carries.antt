-- What comes of a command that works on the stack: it is carried out, answered `unsupported` or refused, exactly as it is judged. Memory may be wanting at any time, and then nothing changes.
use Rattle.std.specs.Prelude.{◌≡◌, ℕ, ◌<◌, Bool, true, false, List, [], ◌∷◌, ◌++◌, map, length, All, IsTrue, Result, Ok, Err}
use Rattle.smt_meaning.specs.declared.tokens.Token.{Token}
use Rattle.smt_meaning.specs.declared.refusals.Refusal.{Refusal}
use Rattle.smt_meaning.specs.Term.{Tree, tree_at}
use Rattle.smt_meaning.specs.Stack.{Assertion}
use Rattle.smt_meaning.specs.State.{frame_of}
use Rattle.smt_meaning.specs.Sorts.{Scope, done, refused, Judging, Typed}
use Rattle.elaborate.specs.Values.{IsLonger}
use Rattle.smt_meaning.specs.StackCommand.{Stack, Change, declares, asserts, pushes, pops, asks, assumes, sets, clears, begins_again, is_unsupported, scope_of, judged, changed, ask_terms, assume_terms}
use Rattle.scope_stack.specs.declared.answers.Carried.{Carried}
use Rattle.scope_stack.specs.declared.answers.Carried.TheVariants.{Done, Unsupported}
use Rattle.scope_stack.specs.declared.answers.StackError.{StackError}
use Rattle.scope_stack.specs.declared.answers.StackError.TheVariants.{Refused, Memory}
use Rattle.scope_stack.specs.declared.answers.Asked.{Asked}
use Rattle.scope_stack.specs.Inside.{IsReached}

-- declarations, assertions, and levels that come or go
abbrev pub is_plain : Change → Bool
is_plain declares = true
is_plain (asserts a) = true
is_plain (pushes n) = true
is_plain (pops n) = true
is_plain (asks ts) = false
is_plain (assumes xs) = false
is_plain (sets o) = false
is_plain clears = false
is_plain begins_again = false
is_plain is_unsupported = false

-- the command is carried out: it is judged to make a change, and the stack is changed so
pub record IsDone (c : ℕ → Judging Change) (old new : Stack) : Type 0 where
  pub change : Change
  pub scope : Scope
  pub plain : IsTrue (is_plain change)
  pub is_judged : judged c old ≡ done change scope
  pub new_is : new ≡ changed old change scope

-- it is judged to be answered `unsupported`
pub record IsLeftOut (c : ℕ → Judging Change) (old new : Stack) : Type 0 where
  pub is_judged : judged c old ≡ done is_unsupported (scope_of old)
  pub same : new ≡ old

-- it is judged to be refused so
pub record IsRefused (c : ℕ → Judging Change) (why : Refusal) (old new : Stack) : Type 0 where
  pub is_judged : judged c old ≡ refused why
  pub same : new ≡ old

abbrev pub Carries : (ℕ → Judging Change) → Stack → Result Carried StackError → Stack → Type 0
Carries c old (Ok Done) new = IsDone c old new
Carries c old (Ok Unsupported) new = IsLeftOut c old new
Carries c old (Err (Refused r)) new = IsRefused c r old new
Carries c old (Err Memory) new = new ≡ old

-- ---- questions

abbrev pub typed_by : List Tree → List Asked → List Typed
typed_by ts terms = map (λ (a : Asked). record { tree = tree_at ts a.term; sort = a.sort }) terms

abbrev pub question : List (List Token) → ℕ → Judging Change
question texts level = ask_terms texts

-- the terms are judged to be these, each of which is at its place
pub record IsAsked (texts : List (List Token)) (terms : List Asked) (old new : Stack) : Type 0 where
  pub scope : Scope
  pub is_judged : judged (question texts) old ≡ done (asks (typed_by scope.trees terms)) scope
  pub within : All (λ (a : Asked). a.term < length scope.trees) terms
  pub new_is : new ≡ changed old (asks (typed_by scope.trees terms)) scope
  pub reached : IsReached old
  pub longer : IsLonger old.trees new.trees

-- a question was answered by this stack, before which there were so many terms
pub record IsAfterQuestion (terms : ℕ) (new : Stack) : Type 0 where
  pub texts : List (List Token)
  pub asked : List Asked
  pub old : Stack
  pub many : length old.trees ≡ terms
  pub is_asked : IsAsked texts asked old new

-- ---- assumptions

abbrev pub assumption : List (List Token) → ℕ → Judging Change
assumption texts level = assume_terms level texts

-- a level above the stack, which asserts these
abbrev pub under : List Assertion → Stack → Stack
under xs s = record s { frames = s.frames ++ frame_of xs ∷ [] }

-- the terms are judged to be assumed so, and their level stands above the stack, whose list of trees they join
pub record IsAssumed (texts : List (List Token)) (assumed : List Assertion) (old new : Stack) : Type 0 where
  pub scope : Scope
  pub is_judged : judged (assumption texts) old ≡ done (assumes assumed) scope
  pub new_is : new ≡ under assumed (changed old (assumes assumed) scope)
  pub some : 0 < length old.frames
  pub reached : IsReached old
  pub longer : IsLonger old.trees new.trees

-- the stack is under assumptions, before which there were so many terms
pub record IsUnderAssumptions (terms : ℕ) (new : Stack) : Type 0 where
  pub texts : List (List Token)
  pub assumed : List Assertion
  pub old : Stack
  pub many : length old.trees ≡ terms
  pub is_assumed : IsAssumed texts assumed old new

abbrev pub Assumes : List (List Token) → Stack → Result (Unit {0}) StackError → Stack → Type 0
Assumes texts old (Ok u) new = (assumed : List Assertion) × IsAssumed texts assumed old new
Assumes texts old (Err (Refused r)) new = IsRefused (assumption texts) r old new
Assumes texts old (Err Memory) new = new ≡ old

-- ---- answers to questions

abbrev pub Answers : List (List Token) → Stack → Result (List Asked) StackError → Stack → Type 0
Answers texts old (Ok terms) new = IsAsked texts terms old new
Answers texts old (Err (Refused r)) new = IsRefused (question texts) r old new
Answers texts old (Err Memory) new = new ≡ old
