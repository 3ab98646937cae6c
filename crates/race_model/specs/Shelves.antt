-- What the calls of a shared pool of clauses do.
use Rattle.std.specs.Prelude.{◌≡◌, ℕ, Bool, ◌+◌, ◌<◌, ◌≤◌, List, [], ◌∷◌, ◌++◌, length, replicate, None}
use Rattle.smt_meaning.specs.declared.clauses.Clause.{Clause}
use Rattle.race_model.specs.declared.event.Entry.{Entry}
use Rattle.race_model.specs.declared.shelf.Told.{Told}
use Rattle.race_model.specs.declared.shelf.Told.TheVariants.{Shared, Full, Memory}
use Rattle.race_model.specs.Base.{Base}
use Rattle.race_model.specs.Race.{State, most_entries, fresh_worker}

pub record ShelfState : Type 0 where
  -- what its clauses follow from
  pub base : Base
  pub entries : List Entry
  -- the workers that have ended since the race began, in order
  pub ended : List ℕ
  -- so many ends, and so many shares, take no memory
  pub room : ℕ
  pub spare : ℕ
  -- whether declarations are global
  pub global : Bool

-- all but the room is the same
pub record IsSame (s t : ShelfState) : Type 0 where
  pub base : t.base ≡ s.base
  pub entries : t.entries ≡ s.entries
  pub ended : t.ended ≡ s.ended
  pub room : s.room ≤ t.room
  pub spare : s.spare ≤ t.spare
  pub global : t.global ≡ s.global

-- one entry more
pub record Adds (e : Entry) (s t : ShelfState) : Type 0 where
  pub base : t.base ≡ s.base
  pub entries : t.entries ≡ s.entries ++ e ∷ []
  pub ended : t.ended ≡ s.ended
  pub room : s.room ≤ t.room
  pub spare : s.spare ≤ t.spare + 1
  pub global : t.global ≡ s.global

-- the clause stands at its place, or comes back: exactly where the shelf is full, or for want of memory where there is no spare room
abbrev pub Shares : ℕ → Clause → ShelfState → ShelfState → Told → Type 0
Shares w c s t (Shared place) = Adds (record { clause = c; worker = w }) s t × (length s.entries < most_entries) × (place ≡ length s.entries)
Shares w c s t (Full back) = IsSame s t × (most_entries ≤ length s.entries) × (back ≡ c)
Shares w c s t (Memory back) = IsSame s t × (s.spare ≡ 0) × (back ≡ c)

-- the clauses and what they follow from are the same, and whether declarations are global
abbrev pub KeepsClauses : ShelfState → ShelfState → Type 0
KeepsClauses s t = (t.base ≡ s.base) × (t.entries ≡ s.entries) × (t.global ≡ s.global)

-- nobody has ended, and so many ends take no memory
pub record Begins (n : ℕ) (s t : ShelfState) : Type 0 where
  pub base : t.base ≡ s.base
  pub entries : t.entries ≡ s.entries
  pub ended : t.ended ≡ []
  pub room : n ≤ t.room
  pub global : t.global ≡ s.global

-- the worker has ended
pub record Ends (w : ℕ) (s t : ShelfState) : Type 0 where
  pub base : t.base ≡ s.base
  pub entries : t.entries ≡ s.entries
  pub ended : t.ended ≡ s.ended ++ w ∷ []
  pub room : s.room ≤ t.room + 1
  pub global : t.global ≡ s.global

-- the state in which a race of n workers over the shelf begins
abbrev pub racing : ℕ → ShelfState → State
racing n s = record { base = s.base; entries = s.entries; workers = replicate n fresh_worker; winner = None; global = s.global }
