-- What keeps the two watched literals useful.
use Rattle.std.specs.Prelude.{◌≡◌, ℕ, ◌+◌, ◌*◌, ◌<◌, ◌≤◌, ◌⊎◌, true, List, [], ◌∷◌, ◌++◌, All, Contains, length, slice_index_or, if◌then◌else◌}
use Rattle.literals.specs.Signed.{Signed, opposite}
use Rattle.clause_store.specs.Trail.{Assigns}
use Rattle.clause_store.specs.declared.trail.Step.{Step}
use Rattle.clause_store.specs.Stored.{Kept, IsFalseOn, IsReached}
use Rattle.clause_store.specs.Entries.{Entry, entry_at, watches_of, IsKnown, zero_literal}
use Rattle.clause_store.specs.declared.lists.Watch.{Watch}

-- ---- a clause on a trail

-- a literal of the clause is on the trail
pub record IsSatisfied (steps : List Step) (ls : List Signed) : Type 0 where
  pub literal : Signed
  pub contained : Contains ls literal
  pub assigned : Assigns steps literal

-- its two watched literals differ, and none is false by these steps
pub record IsAwake (seen : List Step) (e : Entry) : Type 0 where
  pub apart : e.first ≡ e.second → ⊥
  pub first : IsFalseOn seen e.first → ⊥
  pub second : IsFalseOn seen e.second → ⊥

abbrev pub IsSettled : List Step → List Step → Entry → Type 0
IsSettled seen steps e = IsSatisfied steps e.literals ⊎ IsAwake seen e

-- ---- clauses and lists of watches

-- its watched literals are its own; they are one only where all its literals are
pub record IsPair (e : Entry) : Type 0 where
  pub first : Contains e.literals e.first
  pub second : Contains e.literals e.second
  pub single : e.first ≡ e.second → All (λ m. m ≡ e.first) e.literals

abbrev pub no_watch : Watch
no_watch = record { blocker = zero_literal; row = 0 }

-- from this place on a watch of the clause stands in the list
pub record IsListed (ws : List Watch) (start i : ℕ) : Type 0 where
  pub place : ℕ
  pub at_least : start ≤ place
  pub within : place < length ws
  pub row : (slice_index_or ws place no_watch).row ≡ i

-- a watch of a clause that is there, whose blocker is one of its literals
pub record IsSound (atoms : ℕ) (es : List Entry) (w : Watch) : Type 0 where
  pub within : w.row < length es
  pub known : w.blocker.atom < atoms
  pub blocker : (entry_at es w.row).live ≡ true → Contains (entry_at es w.row).literals w.blocker

-- the literal is one of the clause's, and one of its two watched ones
pub record IsOwn (es : List Entry) (l : Signed) (w : Watch) : Type 0 where
  pub pair : ((entry_at es w.row).first ≡ l) ⊎ ((entry_at es w.row).second ≡ l)
  pub contained : Contains (entry_at es w.row).literals l

-- no clause stands twice in the list
abbrev pub IsOnce : List Watch → Type 0
IsOnce ws = (j k : ℕ) → j < length ws → k < length ws → (slice_index_or ws j no_watch).row ≡ (slice_index_or ws k no_watch).row → j ≡ k

-- a literal's list has the clauses that it watches alone, each once, those forgotten too
pub record IsTidy (es : List Entry) (lists : List (List Watch)) : Type 0 where
  pub own : (l : Signed) → All (IsOwn es l) (watches_of lists l)
  pub once : (l : Signed) → IsOnce (watches_of lists l)

pub record IsWatching (atoms : ℕ) (es : List Entry) (lists : List (List Watch)) : Type 0 where
  pub known : (i : ℕ) → (entry_at es i).live ≡ true → IsKnown atoms (entry_at es i)
  pub pairs : (i : ℕ) → (entry_at es i).live ≡ true → IsPair (entry_at es i)
  pub sound : (l : Signed) → All (IsSound atoms es) (watches_of lists l)
  pub listed : (i : ℕ) → (entry_at es i).live ≡ true → IsListed (watches_of lists (entry_at es i).first) 0 i × IsListed (watches_of lists (entry_at es i).second) 0 i
  pub room : 2 * atoms ≤ length lists
  pub tidy : IsTidy es lists

-- ---- depths

-- a depth: how many clauses it has, the steps at its end, those gone through, and clauses that wait to be forced
pub record View : Type 0 where
  pub rows : ℕ
  pub steps : List Step
  pub seen : List Step
  pub waiting : List ℕ

-- the depths below, and the steps gone through before and after a literal's watches
pub record Frame : Type 0 where
  pub views : List View
  pub seen : List Step
  pub after : List Step

-- the clauses are settled, but for those whose watch of this literal isn't gone through yet
pub record Covers (g : Frame) (f : Signed) (es : List Entry) (steps : List Step) (ws : List Watch) (k : ℕ) : Type 0 where
  pub after_on : (l : Signed) → Assigns g.after l → Assigns steps l
  pub after_new : (l : Signed) → Assigns g.after l → Assigns g.seen l ⊎ (l ≡ opposite f)
  pub views_on : (v : View) → Contains g.views v → (l : Signed) → Assigns v.seen l → Assigns steps l
  pub current : (i : ℕ) → (entry_at es i).live ≡ true → IsSettled g.after steps (entry_at es i) ⊎ (IsSettled g.seen steps (entry_at es i) × IsListed ws k i)
  pub lower : (v : View) → Contains g.views v → (i : ℕ) → i < v.rows → (entry_at es i).live ≡ true → Contains v.waiting i ⊎ IsSettled v.seen v.steps (entry_at es i)

-- ---- the kept clauses

abbrev pub kept_of : ℕ → Entry → Kept
kept_of i e = record { id = i; literals = e.literals; level = e.level }

-- the clauses that are kept; an id is a place
abbrev pub kept_from : ℕ → List Entry → List Kept
kept_from i [] = []
kept_from i (e ∷ es) = if e.live then kept_of i e ∷ kept_from (i + 1) es else kept_from (i + 1) es

-- the steps grow by what the clauses force
pub record Grows (clauses : List Kept) (depth : ℕ) (old new : List Step) : Type 0 where
  pub added : List Step
  pub gains : new ≡ old ++ added
  pub reached : IsReached clauses old added depth

-- the same clauses at the same places, perhaps with other watched literals
pub record SameShape (old new : List Entry) : Type 0 where
  pub count : length new ≡ length old
  pub live : (i : ℕ) → (entry_at new i).live ≡ (entry_at old i).live
  pub literals : (i : ℕ) → (entry_at new i).literals ≡ (entry_at old i).literals
