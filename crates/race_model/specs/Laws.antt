-- A sound state, and that every run keeps states sound.
use Rattle.std.specs.Prelude.{◌≡◌, ℕ, Bool, ◌<◌, ◌≤◌, List, [], ◌++◌, length, take, All}
use Rattle.smt_meaning.specs.declared.clauses.Clause.{Clause}
use Rattle.smt_meaning.specs.Declaration.{Declaration}
use Rattle.smt_meaning.specs.Term.{Tree}
use Rattle.smt_meaning.specs.Stack.{Assertion, HasNoModel, up_to, on_top, with_declared, pushed}
use Rattle.smt_meaning.specs.Follows.{Follows}
use Rattle.race_model.specs.declared.event.Entry.{Entry}
use Rattle.race_model.specs.declared.event.Event.{Event}
use Rattle.race_model.specs.declared.state.Worker.{Worker}
use Rattle.race_model.specs.Base.{Base}
use Rattle.race_model.specs.Race.{State, Allowed, after, IsRace, BeginsAfter, IsStart, IsRun}

-- the clause follows from the levels up to its own, which is one of the levels
pub record IsSound (b : Base) (c : Clause) : Type 0 where
  pub follows : Follows b.trees b.frames c.level c
  pub within : c.level < length b.frames

-- each entry and each own clause follows at its level, and each mark is at most the number of entries
pub record IsSoundState (s : State) : Type 0 where
  pub entries : All (λ (e : Entry). IsSound s.base e.clause) s.entries
  pub own : All (λ (x : Worker). All (IsSound s.base) x.own) s.workers
  pub marks : All (λ (x : Worker). x.mark ≤ length s.entries) s.workers

-- ---- laws

-- a clause that follows at its level still does after a push,
abbrev pub SoundAfterPush : Type 0
SoundAfterPush = (b : Base) (n : ℕ) (c : Clause) → IsSound b c → IsSound (record b { frames = pushed n b.frames }) c

-- after declarations and assertions,
abbrev pub SoundAfterAssert : Type 0
SoundAfterAssert = (b : Base) (ds : List Declaration) (xs : List Assertion) (c : Clause) → IsSound b c → IsSound (record b { frames = on_top ds xs b.frames }) c

-- after declarations, which level 0 gains where they are global,
abbrev pub SoundAfterDeclared : Type 0
SoundAfterDeclared =
    (b : Base) (global : Bool) (ds : List Declaration) (c : Clause) → IsSound b c → IsSound (record b { frames = with_declared global ds b.frames }) c

-- where the levels below n stay, and its own is one of them,
abbrev pub SoundAfterCut : Type 0
SoundAfterCut = (b : Base) (n : ℕ) (c : Clause) → c.level < n → n ≤ length b.frames → IsSound b c → IsSound (record b { frames = take n b.frames }) c

-- and with more trees
abbrev pub SoundWithTrees : Type 0
SoundWithTrees = (b : Base) (us : List Tree) (c : Clause) → IsSound b c → IsSound (record b { trees = b.trees ++ us }) c

abbrev pub FirstStateIsSound : Type 0
FirstStateIsSound = (s : State) → IsStart s → IsSoundState s

abbrev pub StepKeepsSound : Type 0
StepKeepsSound = (s : State) (e : Event) → Allowed s e → IsSoundState s → IsSoundState (after s e)

abbrev pub RaceKeepsSound : Type 0
RaceKeepsSound = (s t : State) (es : List Event) → IsRace s es t → IsSoundState s → IsSoundState t

abbrev pub NextRaceBeginsSound : Type 0
NextRaceBeginsSound = (s t : State) → BeginsAfter s t → IsSoundState s → IsSoundState t

-- over every list of races, each in any order of its events
abbrev pub EveryRunIsSound : Type 0
EveryRunIsSound = (s t : State) (races : List (List Event)) → IsStart s → IsRun s races t → IsSoundState t

-- an empty own clause shows that the levels up to its own have no model
abbrev pub EmptyOwnClauseRefutes : Type 0
EmptyOwnClauseRefutes =
    (s : State) → IsSoundState s → All (λ (x : Worker). All (λ (c : Clause). c.literals ≡ [] → HasNoModel (up_to c.level s.base.frames)) x.own) s.workers
