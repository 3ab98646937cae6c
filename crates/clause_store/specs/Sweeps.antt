-- What going through a false literal's watches keeps and gives.
use Rattle.std.specs.Prelude.{◌≡◌, ℕ, true, List, length, slice_set}
use Rattle.literals.specs.Signed.{Signed, packed}
use Rattle.clause_store.specs.declared.trail.Step.{Step}
use Rattle.clause_store.specs.Stored.{AllFalse}
use Rattle.clause_store.specs.Entries.{Entry, entry_at}
use Rattle.clause_store.specs.Watching.{IsWatching, Frame, Covers, Grows, kept_from, SameShape}
use Rattle.clause_store.specs.declared.lists.Watch.{Watch}
use Rattle.clause_store.specs.declared.sweep.Swept.{Swept}
use Rattle.clause_store.specs.declared.sweep.Swept.TheVariants.{Whole, False}

-- clauses, lists of watches and steps; the literal's own list stands apart, gone through up to a place
pub record State : Type 0 where
  pub entries : List Entry
  pub lists : List (List Watch)
  pub steps : List Step
  pub list : List Watch

abbrev pub covered : Frame → Signed → State → ℕ → Type 0
covered g f s k = Covers g f s.entries s.steps s.list k

abbrev pub watching : ℕ → Signed → State → Type 0
watching atoms f s = IsWatching atoms s.entries (slice_set s.lists (packed f) s.list)

pub record Sweeps (atoms depth : ℕ) (f : Signed) (old new : State) (k : ℕ) : Type 0 where
  pub watch : watching atoms f new
  pub covers : (g : Frame) → covered g f old 0 → covered g f new k
  pub grows : Grows (kept_from 0 old.entries) depth old.steps new.steps
  pub clauses : kept_from 0 new.entries ≡ kept_from 0 old.entries
  pub length_lists : length new.lists ≡ length old.lists
  pub shape : SameShape old.entries new.entries

-- a clause that is false, met on the way
pub record Meets (atoms depth : ℕ) (f : Signed) (old new : State) (row : ℕ) : Type 0 where
  pub place : ℕ
  pub sweeps : Sweeps atoms depth f old new place
  pub live : (entry_at new.entries row).live ≡ true
  pub all_false : AllFalse new.steps (entry_at new.entries row).literals

abbrev pub SweptGives : ℕ → ℕ → Signed → State → State → Swept → Type 0
SweptGives atoms depth f old new Whole = Sweeps atoms depth f old new (length new.list)
SweptGives atoms depth f old new (False row) = Meets atoms depth f old new row
