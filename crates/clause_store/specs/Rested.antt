-- What is true between two calls: clauses settled at each depth, and those that wait for their one literal.
use Rattle.std.specs.Prelude.{◌≡◌, ℕ, ◌≤◌, ◌⊎◌, true, List, All, Contains, take, length}
use Rattle.literals.specs.Signed.{Signed}
use Rattle.clause_store.specs.Trail.{up_to}
use Rattle.clause_store.specs.declared.trail.Step.{Step}
use Rattle.clause_store.specs.Stored.{IsFalseOn}
use Rattle.clause_store.specs.Entries.{Entry, entry_at}
use Rattle.clause_store.specs.Watching.{IsSettled}
use Rattle.clause_store.specs.declared.waits.Wait.{Wait}

-- all but this literal are false
abbrev pub OthersFalse : List Step → List Signed → Signed → Type 0
OthersFalse steps ls l = All (λ m. (m ≡ l) ⊎ IsFalseOn steps m) ls

-- a clause whose other literals are false from this depth on
pub record IsWaiting (es : List Entry) (steps : List Step) (w : Wait) : Type 0 where
  pub live : (entry_at es w.row).live ≡ true
  pub contained : Contains (entry_at es w.row).literals w.literal
  pub rest : OthersFalse (up_to w.depth steps) (entry_at es w.row).literals w.literal

-- the clause waits from this depth on, or a lower one
pub record Waits (ws : List Wait) (i depth : ℕ) : Type 0 where
  pub wait : Wait
  pub contained : Contains ws wait
  pub row : wait.row ≡ i
  pub from : wait.depth ≤ depth

-- settled by the steps gone through; and by those that last also with the decisions above any depth undone
pub record Rested (es : List Entry) (steps : List Step) (depth head lasting : ℕ) (ws : List Wait) : Type 0 where
  pub deepest : All (λ (s : Step). s.depth ≤ depth) steps
  pub head_within : head ≤ length steps
  pub lasting_within : lasting ≤ length steps
  pub current : (i : ℕ) → (entry_at es i).live ≡ true → IsSettled (take head steps) steps (entry_at es i) ⊎ Waits ws i depth
  pub each : (d i : ℕ) → (entry_at es i).live ≡ true → IsSettled (take lasting (up_to d steps)) (up_to d steps) (entry_at es i) ⊎ Waits ws i d
  pub waiting : All (IsWaiting es steps) ws
