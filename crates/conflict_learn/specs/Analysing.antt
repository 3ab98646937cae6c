-- What an analysis of a false clause has found.
use Rattle.std.specs.Prelude.{◌≡◌, ℕ, zero, suc, ◌+◌, ◌-◌, ◌<◌, ◌≤◌, ◌⊎◌, ◌==◌, ◌&&◌, nat_le, take, Bool, true, false, List, [], ◌∷◌, ◌++◌, All, Contains, Option, Some, None, length, set, replicate, slice_index_or, count_by, if◌then◌else◌}
use Rattle.literals.specs.Signed.{Signed, opposite}
use Rattle.clause_store.specs.declared.trail.Step.{Step}
use Rattle.clause_store.specs.Stored.{Kept}
use Rattle.clause_store.specs.Found.{HasKept}
use Rattle.conflict_learn.specs.declared.analysis.Mark.{Mark}
use Rattle.conflict_learn.specs.declared.analysis.Mark.TheVariants.{Unseen, Waiting, Resolved}
use Rattle.conflict_learn.specs.declared.minimize.Known.{Known}
use Rattle.conflict_learn.specs.declared.minimize.Known.TheVariants.{Yes, No, By}

pub record State : Type 0 where
  -- by a step's place
  pub marks : List Mark
  -- the places seen below the greatest depth, in the order in which they were met
  pub lower : List ℕ
  pub premises : List ℕ
  -- the greatest depth of the false clause's literals
  pub deepest : ℕ
  -- how many steps of that depth wait
  pub count : ℕ
  -- the greatest level of the premises
  pub level : ℕ

abbrev pub is_unseen : Mark → Bool
is_unseen Unseen = true
is_unseen Waiting = false
is_unseen Resolved = false

abbrev pub is_seen : Mark → Bool
is_seen Unseen = false
is_seen Waiting = true
is_seen Resolved = true

abbrev pub is_waiting : Mark → Bool
is_waiting Unseen = false
is_waiting Waiting = true
is_waiting Resolved = false

abbrev pub is_resolved : Mark → Bool
is_resolved Unseen = false
is_resolved Waiting = false
is_resolved Resolved = true

abbrev pub mark_at : List Mark → ℕ → Mark
mark_at marks k = slice_index_or marks k Unseen

-- in place of a step that isn't there
abbrev pub no_step : Step
no_step = record { literal = record { atom = 0; positive = true }; depth = 0; reason = None }

abbrev pub step_at : List Step → ℕ → Step
step_at steps k = slice_index_or steps k no_step

-- a step at this place isn't the first of its depth, or that is 0
abbrev pub FollowsAt : List Step → ℕ → Type 0
FollowsAt steps k = ((step_at steps k).depth ≡ 0) ⊎ ((j : ℕ) × (j < k) × ((step_at steps j).depth ≡ (step_at steps k).depth))

-- the literal that is false by the step at this place
abbrev pub falsified : List Step → ℕ → Signed
falsified steps k = opposite (step_at steps k).literal

-- ---- changes

abbrev pub with_mark : ℕ → Mark → State → State
with_mark p m s = record { marks = set s.marks p m; lower = s.lower; premises = s.premises; deepest = s.deepest; count = s.count; level = s.level }

abbrev pub with_deep : ℕ → State → State
with_deep p s = record { marks = set s.marks p Waiting; lower = s.lower; premises = s.premises; deepest = s.deepest; count = s.count + 1; level = s.level }

abbrev pub with_lower : ℕ → State → State
with_lower p s = record { marks = set s.marks p Waiting; lower = s.lower ++ p ∷ []; premises = s.premises; deepest = s.deepest; count = s.count; level = s.level }

abbrev pub seen_by : Bool → Bool → ℕ → State → State
seen_by false deep p s = s
seen_by true true p s = with_deep p s
seen_by true false p s = with_lower p s

-- the step at this place waits, unless it was seen
abbrev pub seen : List Step → ℕ → State → State
seen steps p s = seen_by (is_unseen (mark_at s.marks p)) ((step_at steps p).depth == s.deepest) p s

abbrev pub with_premise : ℕ → ℕ → State → State
with_premise id level s = record { marks = s.marks; lower = s.lower; premises = s.premises ++ id ∷ []; deepest = s.deepest; count = s.count; level = level }

-- nothing is seen of so many steps
abbrev pub empty_state : ℕ → ℕ → State
empty_state n deepest = record { marks = replicate n Unseen; lower = []; premises = []; deepest = deepest; count = 0; level = 0 }

-- ---- what holds

-- the literal is that of a step below this place that was seen
pub record SeenAt (steps : List Step) (marks : List Mark) (i : ℕ) (l : Signed) : Type 0 where
  pub place : ℕ
  pub below : place < i
  pub is_seen : is_seen (mark_at marks place) ≡ true
  pub literal : (step_at steps place).literal ≡ l

-- the step's literal follows by a premise from those of steps below that were seen
pub record IsResolvedAt (clauses : List Kept) (steps : List Step) (marks : List Mark) (ids : List ℕ) (k : ℕ) : Type 0 where
  pub by : Kept
  pub kept : Contains clauses by
  pub among : Contains ids by.id
  pub covers : All (λ m. (m ≡ (step_at steps k).literal) ⊎ SeenAt steps marks k (opposite m)) by.literals

-- the literal stands in a premise
pub record StandsIn (clauses : List Kept) (ids : List ℕ) (l : Signed) : Type 0 where
  pub premise : Kept
  pub kept : Contains clauses premise
  pub among : Contains ids premise.id
  pub has : Contains premise.literals l

-- the level is that of a premise, or 0 without premises
abbrev pub IsReachedLevel : List Kept → List ℕ → ℕ → Type 0
IsReachedLevel clauses ids level = ((ids ≡ []) × (level ≡ 0)) ⊎ ((c : Kept) × Contains clauses c × Contains ids c.id × (c.level ≡ level))

-- no number stands twice
abbrev pub AreApart : List ℕ → Type 0
AreApart [] = Unit {0}
AreApart (k ∷ ks) = (Contains ks k → ⊥) × AreApart ks

pub record IsSound (clauses : List Kept) (steps : List Step) (s : State) : Type 0 where
  pub room : length s.marks ≡ length steps
  pub are_kept : All (λ id. HasKept clauses id (λ ls. Unit {0})) s.premises
  pub within : (c : Kept) → Contains clauses c → Contains s.premises c.id → c.level ≤ s.level
  pub reached : IsReachedLevel clauses s.premises s.level
  pub resolved : (k : ℕ) → is_resolved (mark_at s.marks k) ≡ true → IsResolvedAt clauses steps s.marks s.premises k
  pub drawn : (k : ℕ) → is_seen (mark_at s.marks k) ≡ true → StandsIn clauses s.premises (falsified steps k)
  pub shallow : (k : ℕ) → is_seen (mark_at s.marks k) ≡ true → (step_at steps k).depth ≤ s.deepest
  pub sorted : (k : ℕ) → is_waiting (mark_at s.marks k) ≡ true → ((step_at steps k).depth ≡ s.deepest) ⊎ Contains s.lower k
  pub low : All (λ k. (is_seen (mark_at s.marks k) ≡ true) × ((step_at steps k).depth < s.deepest)) s.lower
  pub apart : AreApart s.lower
  pub few : length s.lower + s.count + count_by is_unseen s.marks ≤ length steps

-- how many steps of the greatest depth wait below this place
unfoldable pub pending : ℕ → List Step → List Mark → ℕ → ℕ
pending d steps marks zero = 0
pending d steps marks (suc i) = (if is_waiting (mark_at marks i) && ((step_at steps i).depth == d) then 1 else 0) + pending d steps marks i

-- steps below this place were seen, and nothing else changed
pub record Grew (steps : List Step) (below : ℕ) (old new : State) : Type 0 where
  pub deepest : new.deepest ≡ old.deepest
  pub stays : (k : ℕ) → is_seen (mark_at old.marks k) ≡ true → mark_at new.marks k ≡ mark_at old.marks k
  pub news : (k : ℕ) → is_unseen (mark_at old.marks k) ≡ true → is_seen (mark_at new.marks k) ≡ true → (k < below) × (is_waiting (mark_at new.marks k) ≡ true)
  pub more : List ℕ
  pub lower : new.lower ≡ old.lower ++ more
  pub more_count : old.count ≤ new.count
  pub counted : pending old.deepest steps new.marks below + old.count ≡ pending old.deepest steps old.marks below + new.count

-- the clause's literals, but for one, are seen below this place
pub record TakesIn (clauses : List Kept) (steps : List Step) (id below : ℕ) (but : Option Signed) (old new : State) : Type 0 where
  pub sound : IsSound clauses steps new
  pub grew : Grew steps below old new
  pub covers : HasKept clauses id (All (λ m. (but ≡ Some m) ⊎ SeenAt steps new.marks below (opposite m)))
  pub premises : new.premises ≡ old.premises ++ id ∷ []

-- the false clause is a premise, and each of its literals is false by a step that was seen
pub record IsGrounded (clauses : List Kept) (steps : List Step) (id : ℕ) (s : State) : Type 0 where
  pub false_clause : HasKept clauses id (All (λ m. SeenAt steps s.marks (length steps) (opposite m)))
  pub among : Contains s.premises id

-- the literal is false by a step below this place, of at most this depth
pub record IsFalseBelow (steps : List Step) (below depth : ℕ) (l : Signed) : Type 0 where
  pub place : ℕ
  pub within : place < below
  pub literal : (step_at steps place).literal ≡ opposite l
  pub shallow : (step_at steps place).depth ≤ depth

-- no literal is false by a deeper step, and, unless the depth is 0, one by a step of this depth
pub record IsGreatest (steps : List Step) (ls : List Signed) (depth : ℕ) : Type 0 where
  pub all : All (IsFalseBelow steps (length steps) depth) ls
  pub some : 0 < depth → (m : Signed) × Contains ls m × (p : ℕ) × (p < length steps) × ((step_at steps p).literal ≡ opposite m) × ((step_at steps p).depth ≡ depth)

-- so many steps of the greatest depth wait, all below this place
pub record IsAt (steps : List Step) (s : State) (i : ℕ) : Type 0 where
  pub count : pending s.deepest steps s.marks i ≡ s.count
  pub none_above : (k : ℕ) → i ≤ k → is_waiting (mark_at s.marks k) ≡ true → (step_at steps k).depth ≡ s.deepest → ⊥

pub record Begins (clauses : List Kept) (steps : List Step) (id : ℕ) (new : State) : Type 0 where
  pub sound : IsSound clauses steps new
  pub grounded : IsGrounded clauses steps id new
  pub at : IsAt steps new (length steps)
  pub greatest : HasKept clauses id (λ ms. IsGreatest steps ms new.deepest)
  pub some : 0 < new.deepest → 0 < new.count

-- the one step of the greatest depth that waits
pub record IsOnly (steps : List Step) (s : State) (place : ℕ) : Type 0 where
  pub within : place < length steps
  pub waits : is_waiting (mark_at s.marks place) ≡ true
  pub deep : (step_at steps place).depth ≡ s.deepest
  pub only : (k : ℕ) → is_waiting (mark_at s.marks k) ≡ true → (step_at steps k).depth ≡ s.deepest → k ≡ place

-- the same with one step fewer to wait for
abbrev pub with_less : State → State
with_less s = record { marks = s.marks; lower = s.lower; premises = s.premises; deepest = s.deepest; count = s.count - 1; level = s.level }

-- a step is resolved, and steps below it are seen
pub record Resolves (clauses : List Kept) (steps : List Step) (place : ℕ) (old new : State) : Type 0 where
  pub sound : IsSound clauses steps new
  pub between : State
  pub grew : Grew steps place old between
  pub marked : new ≡ with_mark place Resolved between
  pub premises : (id : ℕ) → Contains old.premises id → Contains new.premises id

-- of the steps of the greatest depth, so many wait
pub record Comes (clauses : List Kept) (steps : List Step) (id left i : ℕ) (old new : State) : Type 0 where
  pub sound : IsSound clauses steps new
  pub grounded : IsGrounded clauses steps id new
  pub at : IsAt steps new i
  pub count : new.count ≡ left
  pub within : i ≤ length steps
  pub deepest : new.deepest ≡ old.deepest

-- ---- the places whose literals stay

-- the reason that is named is the step's
abbrev pub KnownBy : List Step → ℕ → Known → Type 0
KnownBy steps place Yes = Unit {0}
KnownBy steps place No = Unit {0}
KnownBy steps place (By reason) = (step_at steps place).reason ≡ Some reason

-- one place more, with one of the deepest in front
abbrev pub with_place : List Step → ℕ → List ℕ → List ℕ
with_place steps p [] = p ∷ []
with_place steps p (k ∷ ks) = if nat_le (step_at steps p).depth (step_at steps k).depth then (k ∷ ks ++ p ∷ []) else (p ∷ ks ++ k ∷ [])

-- the depth of the first of these steps, 0 where there is none
abbrev pub first_depth : List Step → List ℕ → ℕ
first_depth steps [] = 0
first_depth steps (k ∷ ks) = (step_at steps k).depth

-- the first is one of the deepest
abbrev pub IsHeaded : List Step → List ℕ → Type 0
IsHeaded steps [] = Unit {0}
IsHeaded steps (k ∷ ks) = All (λ p. (step_at steps p).depth ≤ (step_at steps k).depth) ks

-- places of the lower ones before this index, one of the deepest in front; the others before it are resolved
pub record IsSplit (steps : List Step) (s : State) (j : ℕ) (kept : List ℕ) : Type 0 where
  pub apart : AreApart kept
  pub of_lower : All (Contains (take j s.lower)) kept
  pub headed : IsHeaded steps kept
  pub settled : All (λ k. (is_resolved (mark_at s.marks k) ≡ true) ⊎ Contains kept k) (take j s.lower)

-- each step seen below the greatest depth is resolved or stays
pub record Shrinks (clauses : List Kept) (steps : List Step) (id uip : ℕ) (old new : State) (kept : List ℕ) : Type 0 where
  pub sound : IsSound clauses steps new
  pub grounded : IsGrounded clauses steps id new
  pub only : IsOnly steps new uip
  pub split : IsSplit steps new (length new.lower) kept
  pub deepest : new.deepest ≡ old.deepest
