-- Laws of the definitions of commands and replies.
use Rattle.std.specs.Prelude.{◌≡◌, ◌≢◌, ◌⊎◌, ℕ, Bool, true, false, List, [], ◌∷◌, ◌++◌, map, ℤ, pos, IsTrue, Option, Some, None, Ok}
use Rattle.smt_meaning.specs.declared.tokens.Token.{Token}
use Rattle.smt_meaning.specs.declared.errors.Error.{Error as ErrorReply}
use Rattle.smt_meaning.specs.declared.commands.Command.{Command}
use Rattle.smt_meaning.specs.declared.options.OptionSetting.{OptionSetting}
use Rattle.smt_meaning.specs.declared.options.OptionSetting.TheVariants.{Verbosity, ReproducibleResourceLimit, RandomSeed}
use Rattle.smt_meaning.specs.declared.commands.Command.TheVariants.{SetOption, DeclareSort, Assert, CheckSat, CheckSatAssuming, GetUnsatCore, GetUnsatAssumptions, Minimize, Push, Pop}
use Rattle.smt_meaning.specs.declared.settings.Settings.{Settings}
use Rattle.smt_meaning.specs.declared.answers.Entry.{Entry}
use Rattle.smt_meaning.specs.declared.answers.Mode.{Mode}
use Rattle.smt_meaning.specs.declared.answers.Mode.TheVariants as In
use Rattle.smt_meaning.specs.declared.answers.Reply.{Reply}
use Rattle.smt_meaning.specs.declared.answers.Reply.TheVariants.{Silent, Unsupported, Error}
use Rattle.smt_meaning.specs.declared.replies.Kept.{Kept}
use Rattle.smt_meaning.specs.Sexp.{Sexp}
use Rattle.smt_meaning.specs.Sorts.{is_small, Scope, done}
use Rattle.smt_meaning.specs.StackCommand.{start, assumes, assume_terms, judged, changed, after_all}
use Rattle.smt_meaning.specs.Command.{command}
use Rattle.smt_meaning.specs.State.{State, checked_frames, frame_of}
use Rattle.smt_meaning.specs.Stack.{Assertion, Frame, depth, on_top, pushed, popped}
use Rattle.smt_meaning.specs.MayReply.{Decided, MayReply, Replies, IsExactly, IsModel}
use Rattle.smt_meaning.specs.LegalJournal.{Moment, beginning, Runs}
use Rattle.smt_meaning.specs.Text.{text, line}

-- in this state the command may be answered so, and in no other way
pub record HasOneReply (decided : Decided) (old : State) (c : Command) : Type 0 where
  pub reply : Reply
  pub new : State
  pub may : (r : Reply) (kept : Kept) (s : State) → IsExactly reply new r kept s → MayReply decided old c r kept s
  pub only : (r : Reply) (kept : Kept) (s : State) → MayReply decided old c r kept s → IsExactly reply new r kept s

-- a check, and a question for a least value or for a core
abbrev pub is_search : Command → Bool
is_search CheckSat = true
is_search (CheckSatAssuming ts) = true
is_search (Minimize t) = true
is_search GetUnsatCore = true
is_search GetUnsatAssumptions = true
is_search _ = false

-- all other commands have one reply
abbrev pub OneReply : Type 0
OneReply = (decided : Decided) (old : State) (c : Command) → is_search c ≡ false → HasOneReply decided old c

-- an error and `unsupported` change nothing
pub record ChangesNothing (decided : Decided) (old : State) (ts : List Token) (kept : Kept) (new : State) : Type 0 where
  pub after_error : (e : ErrorReply) → Replies decided old ts (Error e) kept new → new ≡ old
  pub after_unsupported : Replies decided old ts Unsupported kept new → new ≡ old

abbrev pub RefusalChangesNothing : Type 0
RefusalChangesNothing = (decided : Decided) (old : State) (ts : List Token) (kept : Kept) (new : State) → ChangesNothing decided old ts kept new

-- bytes that end in one line feed
abbrev pub IsLine : List ℕ → Type 0
IsLine bytes = (front : List ℕ) × (last : ℕ) × (bytes ≡ line (front ++ last ∷ [])) × (last ≢ 10)

-- only a success that isn't printed has no text
abbrev pub TextEndsInOneLine : Type 0
TextEndsInOneLine = (r : Reply) → ((r ≡ Silent) × (text r ≡ [])) ⊎ IsLine (text r)

-- in the start mode no level stands above 0; outside it a logic is set, and a model that is kept is one of the levels of the last check
abbrev pub ModeFits : Mode → Option (List ℕ) → ℕ → List Frame → Type 0
ModeFits In.Start None level frames = level ≡ 0
ModeFits In.Start (Some n) level frames = ⊥
ModeFits In.Assert (Some n) level frames = Unit {0}
ModeFits (In.Sat i) (Some n) level frames = IsModel frames i
ModeFits (In.Unknown r) (Some n) level frames = Unit {0}
ModeFits In.Unsat (Some n) level frames = Unit {0}
ModeFits _ None level frames = ⊥

-- so it is in every state that a journal comes to
abbrev pub ModeHolds : Type 0
ModeHolds =
    (decided : Decided) (settings : Settings) (input : List ℕ) (entries : List Entry) (m : Moment)
    → Runs decided (beginning settings input) entries m → ModeFits m.state.mode m.state.logic (depth m.state.stack.frames) (checked_frames m.state)

-- a number that a script writes: at most 2^127 - 1, and not below 0
abbrev pub IsWritten : ℤ → Type 0
IsWritten n = (k : ℕ) × (n ≡ pos k) × IsTrue (is_small k)

abbrev pub SetsWritten : OptionSetting → Type 0
SetsWritten (Verbosity n) = IsWritten n
SetsWritten (ReproducibleResourceLimit n) = IsWritten n
SetsWritten (RandomSeed n) = IsWritten n
SetsWritten _ = Unit {0}

-- the numbers of a command are such
abbrev pub HasWrittenNumbers : Command → Type 0
HasWrittenNumbers (SetOption o) = SetsWritten o
HasWrittenNumbers (DeclareSort n arity) = IsWritten arity
HasWrittenNumbers (Push n) = IsWritten n
HasWrittenNumbers (Pop n) = IsWritten n
HasWrittenNumbers _ = Unit {0}

abbrev pub NumbersAreWritten : Type 0
NumbersAreWritten = (x : Sexp) (c : Command) → command x ≡ Ok c → HasWrittenNumbers c

-- the levels of such a check are what a push and the assertions make of a stack that has a level, and a pop takes the assumptions away
pub record IsLevelOfAssumptions (frames : List Frame) (xs : List Assertion) : Type 0 where
  pub there : on_top [] xs (pushed 1 frames) ≡ frames ++ frame_of xs ∷ []
  pub gone : popped 1 (frames ++ frame_of xs ∷ []) ≡ frames

abbrev pub AssumptionsAreALevel : Type 0
AssumptionsAreALevel = (frames : List Frame) (xs : List Assertion) → IsLevelOfAssumptions frames xs

-- and by commands: a push, and the assumptions as assertions, make of a stack what the check sees
abbrev pub AssumptionsAreCommands : Type 0
AssumptionsAreCommands =
    (cs : List Command) (texts : List (List Token)) (xs : List Assertion) (c : Scope) → judged (λ level. assume_terms level texts) (after_all start cs) ≡ done (assumes xs) c
    → after_all start (cs ++ Push (pos 1) ∷ map Assert texts) ≡ record (changed (after_all start cs) (assumes xs) c) { frames = (after_all start cs).frames ++ frame_of xs ∷ [] }

-- after a check under assumptions the levels are those before it, whatever was answered
abbrev pub AssumptionsGo : Type 0
AssumptionsGo =
    (decided : Decided) (old : State) (ts : List (List Token)) (reply : Reply) (kept : Kept) (new : State)
    → MayReply decided old (CheckSatAssuming ts) reply kept new → new.stack.frames ≡ old.stack.frames
