-- What a look at one watch of a false literal does.
use Rattle.std.specs.Prelude.{true, ◌≡◌, ℕ, ◌<◌, ◌≤◌, length, slice_index_or, ◌⊎◌, List, [], ◌∷◌, ◌++◌, All, Contains, Some, slice_set}
use Rattle.literals.specs.Signed.{Signed, packed}
use Rattle.clause_store.specs.Trail.{Assigns, IsOpen}
use Rattle.clause_store.specs.declared.trail.Step.{Step}
use Rattle.clause_store.specs.Stored.{IsFalseOn, AllFalse}
use Rattle.clause_store.specs.Entries.{Entry, entry_at, watches_of, IsOther}
use Rattle.clause_store.specs.declared.lists.Watch.{Watch}
use Rattle.clause_store.specs.declared.sweep.Visit.{Visit}
use Rattle.clause_store.specs.declared.sweep.Visit.TheVariants.{Keep, Gone, False}

-- what a sweep may change
pub record Parts : Type 0 where
  pub entries : List Entry
  pub lists : List (List Watch)
  pub steps : List Step

-- the clause forces this literal
pub record Implies (row depth : ℕ) (old new : Parts) (b : Signed) : Type 0 where
  pub was_open : IsOpen old.steps b
  pub rest : All (λ m. (m ≡ b) ⊎ IsFalseOn old.steps m) (entry_at old.entries row).literals
  pub entries : new.entries ≡ old.entries
  pub lists : new.lists ≡ old.lists
  pub steps : let step : Step = record { literal = b; depth = depth; reason = Some row } in new.steps ≡ old.steps ++ step ∷ []

-- a literal of the clause, which isn't false, is watched from now on beside this one
pub record Moves (kept : Signed) (row : ℕ) (old new : Parts) : Type 0 where
  pub found : Signed
  pub apart : found ≡ kept → ⊥
  pub contained : Contains (entry_at old.entries row).literals found
  pub not_false : IsFalseOn old.steps found → ⊥
  pub entries : new.entries ≡ slice_set old.entries row (record (entry_at old.entries row) { first = kept; second = found })
  pub lists : let more : Watch = record { blocker = kept; row = row } in new.lists ≡ slice_set old.lists (packed found) (watches_of old.lists found ++ more ∷ [])
  pub steps : new.steps ≡ old.steps

-- the literal is true, and nothing changes
pub record Stays (old new : Parts) (b : Signed) : Type 0 where
  pub same : new ≡ old
  pub is_true : Assigns old.steps b

-- each of its literals is false
pub record IsConflict (row : ℕ) (old new : Parts) : Type 0 where
  pub same : new ≡ old
  pub all_false : AllFalse old.steps (entry_at old.entries row).literals

-- what a look does at a clause with this other watched literal
abbrev pub StepGives : Signed → ℕ → ℕ → Parts → Parts → Visit → Type 0
StepGives o row depth old new (Keep b) = (b ≡ o) × (Stays old new b ⊎ Implies row depth old new b)
StepGives o row depth old new Gone = Moves o row old new
StepGives o row depth old new False = IsConflict row old new

-- the literal at this place isn't this one, and isn't false
pub record IsFoundAt (steps : List Step) (ls : List Signed) (o : Signed) (k : ℕ) : Type 0 where
  pub within : k < length ls
  pub apart : slice_index_or ls k o ≡ o → ⊥
  pub not_false : IsFalseOn steps (slice_index_or ls k o) → ⊥

pub record NoneBetween (steps : List Step) (ls : List Signed) (o : Signed) (start end' : ℕ) : Type 0 where
  pub none : (k : ℕ) → start ≤ k → k < end' → (slice_index_or ls k o ≡ o) ⊎ IsFalseOn steps (slice_index_or ls k o)

-- a visit of one watch of a false literal: its blocker is true, or the clause isn't watched by the literal, or a look at it
abbrev pub IsBlocked : Watch → Parts → Parts → Visit → Type 0
IsBlocked w old new (Keep b) = (b ≡ w.blocker) × Stays old new b
IsBlocked w old new Gone = ⊥
IsBlocked w old new False = ⊥

pub record IsStale (f : Signed) (w : Watch) (old new : Parts) (v : Visit) : Type 0 where
  pub gone : v ≡ Gone
  pub same : new ≡ old
  pub unless_dead : (entry_at old.entries w.row).live ≡ true → ((entry_at old.entries w.row).first ≡ f → ⊥) × ((entry_at old.entries w.row).second ≡ f → ⊥)

pub record Steps (f : Signed) (w : Watch) (depth : ℕ) (old new : Parts) (v : Visit) : Type 0 where
  pub live : (entry_at old.entries w.row).live ≡ true
  pub other : Signed
  pub is_other : IsOther (entry_at old.entries w.row) f other
  pub gives : StepGives other w.row depth old new v

abbrev pub VisitGives : Signed → Watch → ℕ → Parts → Parts → Visit → Type 0
VisitGives f w depth old new v = IsBlocked w old new v ⊎ (IsStale f w old new v ⊎ Steps f w depth old new v)
