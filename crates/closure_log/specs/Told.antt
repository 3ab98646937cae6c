-- What was told, and the steps that were recorded of it.
use Rattle.std.specs.Prelude.{◌≡◌, ℕ, ◌+◌, ◌<◌, ◌≤◌, List, [], length, take, All, Contains, slice_index_or}
use Rattle.literals.specs.Signed.{Signed}
use Rattle.smt_meaning.specs.declared.clauses.Atom.{Atom}
use Rattle.smt_meaning.specs.Stack.{signature_of}
use Rattle.smt_meaning.specs.StackCommand.{Stack}
use Rattle.search_port.specs.State.{IsConsistent, IsOpenIn}
use Rattle.closure_log.specs.Seen.{IsSetting}
use Rattle.search_port.specs.declared.theory.Asserted.{Asserted}
use Rattle.search_port.specs.declared.theory.Asserted.TheVariants.{Taken, Conflict, Ended}
use Rattle.congruence.specs.Reasons.{NoneTwice}
use Rattle.congruence.specs.declared.congruence.Congruence.{Congruence}
use Rattle.congruence.specs.Reading.{AreSeen}
use Rattle.congruence.specs.Recorded.{IsRecorded}
use Rattle.point_closure.specs.Closure.{AreRead}
use Rattle.smt_meaning.specs.Term.{Tree}
use Rattle.congruence.specs.Reasoned.{IsReasoned}

-- the reasons of the first so many steps are among the first so many literals
pub record IsMark (log reasons : List Signed) (count start : ℕ) : Type 0 where
  pub within : start ≤ length reasons
  pub told : All (Contains (take count log)) (take start reasons)

-- each step is justified by a literal of the log; before each literal so many steps were recorded
pub record IsTold (s : Stack) (table : List Atom) (c : Congruence) (log : List Signed) (starts : List ℕ) : Type 0 where
  pub reasoned : IsReasoned (signature_of s.frames) s.trees table log c
  pub seen : AreSeen s.trees c.closure.graph
  pub numbered : All (λ (l : Signed). l.atom < length table) log
  pub consistent : IsConsistent log
  pub as_many : length starts ≡ length log
  pub ascending : (j k : ℕ) → j ≤ k → k < length starts → slice_index_or starts j 0 ≤ slice_index_or starts k 0
  pub marks : (k : ℕ) → k < length starts → IsMark log c.reasons.items k (slice_index_or starts k 0)

-- the literal is on a numbered atom and open in what was told
pub record CanTell (s : Stack) (table : List Atom) (c : Congruence) (log : List Signed) (starts : List ℕ) (l : Signed) : Type 0 where
  pub setting : IsSetting s table
  pub told : IsTold s table c log starts
  pub numbered : l.atom < length table
  pub is_open : IsOpenIn log l

-- the terms are read, and no step is recorded
pub record IsReady (ts : List Tree) (c : Congruence) : Type 0 where
  pub recorded : IsRecorded c
  pub read : AreRead ts c.closure.graph
  pub seen : AreSeen ts c.closure.graph
  pub every : length ts + 2 ≤ length c.closure.graph
  pub first : c.closure.steps.items ≡ []

-- no literal stands twice in a clause that a literal breaks
abbrev pub HasNoneTwice : Asserted → Type 0
HasNoneTwice Taken = Unit {0}
HasNoneTwice (Conflict c) = NoneTwice c.literals
HasNoneTwice (Ended cause) = Unit {0}
