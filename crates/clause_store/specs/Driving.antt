-- What propagation does to a store's parts.
use Rattle.std.specs.Prelude.{◌≡◌, ℕ, true, List, length}
use Rattle.clause_store.specs.Entries.{entry_at}
use Rattle.clause_store.specs.Visits.{Parts}
use Rattle.clause_store.specs.Watching.{IsSettled, IsWatching}
use Rattle.clause_store.specs.Rested.{Rested}
use Rattle.clause_store.specs.Runs.{IsConsistent, IsFalseAt}
use Rattle.clause_store.specs.declared.waits.Wait.{Wait}
use Rattle.clause_store.specs.declared.run.Reached.{Reached}
use Rattle.clause_store.specs.declared.run.Reached.TheVariants.{Fixpoint, False}

-- the parts are as they should be between two calls
pub record Drives (atoms depth : ℕ) (p : Parts) (head : ℕ) (ws : List Wait) : Type 0 where
  pub watch : IsWatching atoms p.entries p.lists
  pub rested : Rested p.entries p.steps depth head head ws

pub record IsQuietAll (p : Parts) : Type 0 where
  pub consistent : IsConsistent p.steps
  pub settled : (i : ℕ) → (entry_at p.entries i).live ≡ true → IsSettled p.steps p.steps (entry_at p.entries i)

abbrev pub DriveGives : ℕ → ℕ → Parts → ℕ → List Wait → Reached → Type 0
DriveGives atoms depth p head ws Fixpoint = Drives atoms depth p head ws × IsQuietAll p × (head ≡ length p.steps)
DriveGives atoms depth p head ws (False row) = Drives atoms depth p head ws × IsFalseAt p row
