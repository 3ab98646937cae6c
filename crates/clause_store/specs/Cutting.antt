-- What forgetting clauses leaves.
use Rattle.std.specs.Prelude.{◌≡◌, ℕ, ◌<◌, ◌≤◌, nat_lt, true, ◌&&◌, List, length}
use Rattle.clause_store.specs.Entries.{Entry, entry_at}

-- the entry, live only where its level is below this
abbrev pub cut_entry : ℕ → Entry → Entry
cut_entry bound e = record e { live = nat_lt e.level bound && e.live }

-- so up to a place, and as before from there on
pub record IsCut (bound : ℕ) (old new : List Entry) (i : ℕ) : Type 0 where
  pub count : length new ≡ length old
  pub before : (k : ℕ) → k < i → k < length old → entry_at new k ≡ cut_entry bound (entry_at old k)
  pub after : (k : ℕ) → i ≤ k → entry_at new k ≡ entry_at old k

-- the same entries, but for some that are no longer live
pub record IsFewer (old new : List Entry) : Type 0 where
  pub count : length new ≡ length old
  pub literals : (i : ℕ) → (entry_at new i).literals ≡ (entry_at old i).literals
  pub first : (i : ℕ) → (entry_at new i).first ≡ (entry_at old i).first
  pub second : (i : ℕ) → (entry_at new i).second ≡ (entry_at old i).second
  pub same : (i : ℕ) → (entry_at new i).live ≡ true → entry_at new i ≡ entry_at old i
