-- Catching up with steps of lower depths, which a decision was taken before.
use Rattle.std.specs.Prelude.{◌≡◌, ℕ, ◌+◌, ◌<◌, ◌≤◌, ◌⊎◌, true, false, List, [], ◌∷◌, ◌++◌, All, Contains, take, drop, length, slice_set}
use Rattle.literals.specs.Signed.{Signed, opposite, packed}
use Rattle.clause_store.specs.Trail.{Assigns, up_to}
use Rattle.clause_store.specs.declared.trail.Step.{Step}
use Rattle.clause_store.specs.Stored.{Kept, AllFalse, IsFalseOn}
use Rattle.clause_store.specs.Looks.{LooksBy}
use Rattle.clause_store.specs.Assigned.{Assigned}
use Rattle.clause_store.specs.Entries.{Entry, Held, Listing, bare, entry_at, rooms, watches_of, IsOther}
use Rattle.clause_store.specs.Room.{HasRoomToMove, HasRoomToWait}
use Rattle.clause_store.specs.Visits.{Parts, Moves}
use Rattle.clause_store.specs.Watching.{IsSettled, IsWatching, IsListed, Grows, kept_from, SameShape}
use Rattle.clause_store.specs.Sweeps.{State, watching}
use Rattle.clause_store.specs.Runs.{IsFalseAt}
use Rattle.clause_store.specs.Rested.{IsWaiting, Waits, OthersFalse}
use Rattle.clause_store.specs.Forcing.{ForceGives, AllForced}
use Rattle.clause_store.specs.Choosing.{AreOpen}
use Rattle.clause_store.specs.From.{AreLast}
use Rattle.clause_store.specs.declared.lists.Watch.{Watch}
use Rattle.clause_store.specs.declared.waits.Wait.{Wait}
use Rattle.clause_store.specs.declared.sweep.Visit.{Visit}
use Rattle.clause_store.specs.declared.sweep.Visit.TheVariants.{Keep, Gone, False}
use Rattle.clause_store.specs.declared.sweep.Swept.{Swept}
use Rattle.clause_store.specs.declared.sweep.Swept.TheVariants.{Whole, False as FalseClause}
use Rattle.clause_store.specs.declared.run.Reached.{Reached}
use Rattle.clause_store.specs.declared.run.Reached.TheVariants.{Fixpoint, False as FalseReached}
use Rattle.clause_store.specs.declared.late.Examined.{Examined}
use Rattle.clause_store.specs.declared.late.Examined.TheVariants.{Found, False as AllAreFalse, Pinned}

-- ---- the depths

-- at each depth the clause is settled by the steps gone through, or waits
abbrev pub IsCovered : List Step → List Wait → ℕ → ℕ → Entry → Type 0
IsCovered steps ws head i e = (d : ℕ) → IsSettled (take head (up_to d steps)) (up_to d steps) e ⊎ Waits ws i d

abbrev pub AreCovered : List Entry → List Step → List Wait → ℕ → Type 0
AreCovered es steps ws head = (i : ℕ) → (entry_at es i).live ≡ true → IsCovered steps ws head i (entry_at es i)

-- what waits has its literal on the trail
pub record IsReady (es : List Entry) (steps : List Step) (depth : ℕ) (ws : List Wait) : Type 0 where
  pub deepest : All (λ (s : Step). s.depth ≤ depth) steps
  pub waiting : All (IsWaiting es steps) ws
  pub forced : AllForced steps ws

-- covered with the next step too, but for clauses whose watch of its literal isn't gone through yet
pub record LateCovers (head : ℕ) (f : Signed) (es : List Entry) (steps : List Step) (list : List Watch) (k : ℕ) (ws : List Wait) : Type 0 where
  pub within : head < length steps
  pub next : (d : ℕ) (l : Signed) → Assigns (take (head + 1) (up_to d steps)) l → Assigns (take head (up_to d steps)) l ⊎ (l ≡ opposite f)
  pub each : (i : ℕ) → (entry_at es i).live ≡ true → IsCovered steps ws (head + 1) i (entry_at es i) ⊎ (IsCovered steps ws head i (entry_at es i) × IsListed list k i)

-- ---- one clause

-- all but this literal are false; the other is the one that became so last, from this depth on
pub record IsPinned (steps : List Step) (ls : List Signed) (o s : Signed) (from : ℕ) : Type 0 where
  pub contained : Contains ls s
  pub apart : s ≡ o → ⊥
  pub is_false : IsFalseOn steps s
  pub not_false : IsFalseOn steps o → ⊥
  pub rest : OthersFalse (up_to from steps) ls o
  pub below : (d : ℕ) → d < from → AreOpen (up_to d steps) o s

abbrev pub ExaminedGives : List Step → List Signed → Signed → Examined → Type 0
ExaminedGives steps ls o (Found l) = Contains ls l × (l ≡ o → ⊥) × (IsFalseOn steps l → ⊥)
ExaminedGives steps ls o AllAreFalse = AllFalse steps ls
ExaminedGives steps ls o (Pinned s from) = IsPinned steps ls o s from

-- a clause waits so and no longer otherwise, and its literal is on the trail
pub record Pins (w : Wait) (depth : ℕ) (steps steps' : List Step) (ws ws' : List Wait) : Type 0 where
  pub waits : Contains ws' w
  pub keeps : (x : Wait) → Contains ws x → (x.row ≡ w.row → ⊥) → Contains ws' x
  pub only : (x : Wait) → Contains ws' x → Contains ws x ⊎ (x ≡ w)
  pub forced : ForceGives w depth steps steps' true

-- another literal of the clause is watched beside this one
pub record Shifts (kept found : Signed) (row : ℕ) (old new : Parts) : Type 0 where
  pub entries : new.entries ≡ slice_set old.entries row (record (entry_at old.entries row) { first = kept; second = found })
  pub lists : let more : Watch = record { blocker = kept; row = row } in new.lists ≡ slice_set old.lists (packed found) (watches_of old.lists found ++ more ∷ [])

pub record Remains (old new : Parts) : Type 0 where
  pub entries : new.entries ≡ old.entries
  pub lists : new.lists ≡ old.lists

abbrev pub PinGives : Signed → Signed → Wait → ℕ → Parts → Parts → List Wait → List Wait → Visit → Type 0
PinGives f s w depth old new ws ws' (Keep b) = (b ≡ w.literal) × (s ≡ f) × Remains old new × Pins w depth old.steps new.steps ws ws'
PinGives f s w depth old new ws ws' Gone = (s ≡ f → ⊥) × Shifts w.literal s w.row old new × Pins w depth old.steps new.steps ws ws'
PinGives f s w depth old new ws ws' False = ⊥

pub record LatePins (f : Signed) (row depth : ℕ) (old new : Parts) (ws ws' : List Wait) (v : Visit) : Type 0 where
  pub live : (entry_at old.entries row).live ≡ true
  pub other : Signed
  pub is_other : IsOther (entry_at old.entries row) f other
  pub second : Signed
  pub from : ℕ
  pub pinned : IsPinned old.steps (entry_at old.entries row).literals other second from
  pub gives : let w : Wait = record { row = row; literal = other; depth = from } in PinGives f second w depth old new ws ws' v

pub record LateMoves (f : Signed) (row : ℕ) (old new : Parts) (ws ws' : List Wait) : Type 0 where
  pub live : (entry_at old.entries row).live ≡ true
  pub other : Signed
  pub is_other : IsOther (entry_at old.entries row) f other
  pub moves : Moves other row old new
  pub waits : ws' ≡ ws

pub record LateSame (old new : Parts) (ws ws' : List Wait) : Type 0 where
  pub same : new ≡ old
  pub waits : ws' ≡ ws

abbrev pub LateGives : Signed → ℕ → ℕ → Parts → Parts → List Wait → List Wait → Visit → Type 0
LateGives f row depth old new ws ws' (Keep b) = LatePins f row depth old new ws ws' (Keep b)
LateGives f row depth old new ws ws' Gone = ((entry_at old.entries row).live ≡ false × LateSame old new ws ws') ⊎ (LateMoves f row old new ws ws' ⊎ LatePins f row depth old new ws ws' Gone)
LateGives f row depth old new ws ws' False = ((entry_at old.entries row).live ≡ true) × LateSame old new ws ws' × AllFalse old.steps (entry_at old.entries row).literals

-- ---- one literal's watches

pub record LateSweeps (atoms depth : ℕ) (f : Signed) (old new : State) (ws ws' : List Wait) (k : ℕ) : Type 0 where
  pub watch : watching atoms f new
  pub covers : (head : ℕ) → LateCovers head f old.entries old.steps old.list 0 ws → LateCovers head f new.entries new.steps new.list k ws'
  pub ready : IsReady new.entries new.steps depth ws'
  pub grows : Grows (kept_from 0 old.entries) depth old.steps new.steps
  pub clauses : kept_from 0 new.entries ≡ kept_from 0 old.entries
  pub length_lists : length new.lists ≡ length old.lists
  pub shape : SameShape old.entries new.entries

pub record LateMeets (atoms depth : ℕ) (f : Signed) (old new : State) (ws ws' : List Wait) (row : ℕ) : Type 0 where
  pub place : ℕ
  pub sweeps : LateSweeps atoms depth f old new ws ws' place
  pub live : (entry_at new.entries row).live ≡ true
  pub all_false : AllFalse new.steps (entry_at new.entries row).literals

abbrev pub LateSweptGives : ℕ → ℕ → Signed → State → State → List Wait → List Wait → Swept → Type 0
LateSweptGives atoms depth f old new ws ws' Whole = LateSweeps atoms depth f old new ws ws' (length new.list)
LateSweptGives atoms depth f old new ws ws' (FalseClause row) = LateMeets atoms depth f old new ws ws' row

-- ---- one step, and all

pub record LateHolds (atoms depth : ℕ) (p : Parts) (ws : List Wait) (head : ℕ) : Type 0 where
  pub watch : IsWatching atoms p.entries p.lists
  pub covered : AreCovered p.entries p.steps ws head
  pub ready : IsReady p.entries p.steps depth ws
  pub within : head ≤ length p.steps

-- steps of lower depths may be gone through from this one on, and nothing that this moves takes memory
pub record MayCatchUp (rows : Held) (lists : List Listing) (trail : Assigned) (ws : List Wait) (capacity head : ℕ) : Type 0 where
  pub holds : LateHolds trail.atoms trail.depth (record { entries = rows.entries; lists = bare lists; steps = trail.steps }) ws head
  pub move_room : HasRoomToMove rows.entries (rooms lists)
  pub room : HasRoomToWait rows.entries ws capacity

abbrev pub LateTurnGives : ℕ → ℕ → ℕ → Parts → Parts → List Wait → Swept → Type 0
LateTurnGives atoms depth head old new ws' Whole = LateHolds atoms depth new ws' (head + 1) × SameShape old.entries new.entries
LateTurnGives atoms depth head old new ws' (FalseClause row) = LateHolds atoms depth new ws' head × IsFalseAt new row

abbrev pub CatchGives : ℕ → ℕ → ℕ → Parts → List Wait → Reached → Type 0
CatchGives atoms depth head new ws' Fixpoint = LateHolds atoms depth new ws' head × AreLast new.steps depth head
CatchGives atoms depth head new ws' (FalseReached row) = LateHolds atoms depth new ws' head × IsFalseAt new row

-- the count rises by no more than the pairs of the steps gone through, and where it stops before the end of all
abbrev pub CatchLooks : ℕ → ℕ → List Step → List Kept → ℕ → ℕ → Reached → Type 0
CatchLooks start head steps clauses old new Fixpoint = (start ≤ head) × LooksBy (drop start (take head steps)) clauses old new
CatchLooks start head steps clauses old new (FalseReached row) = LooksBy (drop start steps) clauses old new
