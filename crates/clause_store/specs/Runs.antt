-- What propagation by watches keeps and reaches.
use Rattle.std.specs.Prelude.{◌≡◌, ℕ, ◌<◌, ◌≤◌, ◌⊎◌, true, List, Contains, take, length}
use Rattle.literals.specs.Signed.{Signed, opposite}
use Rattle.clause_store.specs.Trail.{Assigns}
use Rattle.clause_store.specs.declared.trail.Step.{Step}
use Rattle.clause_store.specs.Stored.{AllFalse}
use Rattle.clause_store.specs.Assigned.{Assigned}
use Rattle.clause_store.specs.Entries.{Entry, Held, Listing, entry_at, rooms, watches_of}
use Rattle.clause_store.specs.Watching.{IsSettled, IsWatching, View, Frame, Covers, Grows, SameShape, kept_from}
use Rattle.clause_store.specs.Visits.{Parts}
use Rattle.clause_store.specs.declared.run.Reached.{Reached}
use Rattle.clause_store.specs.declared.run.Reached.TheVariants.{Fixpoint, False}
use Rattle.clause_store.specs.declared.sweep.Swept.{Swept}
use Rattle.clause_store.specs.declared.sweep.Swept.TheVariants.{Whole, False as FalseClause}

-- each clause is settled by the steps up to the head, and at each depth below
pub record Rests (views : List View) (es : List Entry) (steps : List Step) (head : ℕ) : Type 0 where
  pub current : (i : ℕ) → (entry_at es i).live ≡ true → IsSettled (take head steps) steps (entry_at es i)
  pub views_on : (v : View) → Contains views v → (l : Signed) → Assigns v.seen l → Assigns steps l
  pub lower : (v : View) → Contains views v → (i : ℕ) → i < v.rows → (entry_at es i).live ≡ true → Contains v.waiting i ⊎ IsSettled v.seen v.steps (entry_at es i)

-- one literal's watches are gone through up to a place
pub record Turns (atoms : ℕ) (f : Signed) (old new : Parts) (k : ℕ) : Type 0 where
  pub watch : IsWatching atoms new.entries new.lists
  pub covers : (g : Frame) → Covers g f old.entries old.steps (watches_of old.lists f) 0 → Covers g f new.entries new.steps (watches_of new.lists f) k
  pub shape : SameShape old.entries new.entries

pub record IsFalseAt (p : Parts) (row : ℕ) : Type 0 where
  pub live : (entry_at p.entries row).live ≡ true
  pub all_false : AllFalse p.steps (entry_at p.entries row).literals

pub record TurnsTo (atoms : ℕ) (f : Signed) (old new : Parts) (row : ℕ) : Type 0 where
  pub place : ℕ
  pub turns : Turns atoms f old new place
  pub is_false : IsFalseAt new row

abbrev pub TurnGives : ℕ → Signed → Parts → Parts → Swept → Type 0
TurnGives atoms f old new Whole = Turns atoms f old new (length (watches_of new.lists f))
TurnGives atoms f old new (FalseClause row) = TurnsTo atoms f old new row

-- no literal is there with both signs
abbrev pub IsConsistent : List Step → Type 0
IsConsistent steps = (l : Signed) → Assigns steps l → Assigns steps (opposite l) → ⊥

-- the store stays watched, and its clauses settled up to this head
pub record Runs (atoms : ℕ) (old new : Parts) (start head : ℕ) : Type 0 where
  pub watch : IsWatching atoms new.entries new.lists
  pub rests : (views : List View) → Rests views old.entries old.steps start → Rests views new.entries new.steps head
  pub shape : SameShape old.entries new.entries

abbrev pub RunGives : ℕ → Parts → Parts → ℕ → ℕ → Reached → Type 0
RunGives atoms old new start head Fixpoint = Runs atoms old new start head × (head ≡ length new.steps) × IsConsistent new.steps
RunGives atoms old new start head (False row) = Runs atoms old new start head × IsFalseAt new row × (head ≤ length new.steps)

-- what propagation keeps: the clauses by their places and the room in the lists; the trail only grows, by what the clauses force at the depth that stays
pub record KeepsStore (rows rows' : Held) (lists lists' : List Listing) (trail trail' : Assigned) : Type 0 where
  pub rises : rows.looks ≤ rows'.looks
  pub grows : Grows (kept_from 0 rows.entries) trail.depth trail.steps trail'.steps
  pub clauses : kept_from 0 rows'.entries ≡ kept_from 0 rows.entries
  pub count : length rows'.entries ≡ length rows.entries
  pub shape : SameShape rows.entries rows'.entries
  pub rooms : rooms lists' ≡ rooms lists
  pub atoms : trail'.atoms ≡ trail.atoms
  pub depth : trail'.depth ≡ trail.depth
