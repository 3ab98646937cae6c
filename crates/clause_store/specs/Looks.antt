-- How often a store looks at its clauses.
use Rattle.std.specs.Prelude.{◌≡◌, ℕ, ◌+◌, ◌<◌, ◌≤◌, true, List, [], ◌∷◌, ◌++◌, All, Contains, length, drop, slice_index_or, Result, IfOk, OnErr}
use Rattle.std.specs.declared.alloc.AllocError.{AllocError}
use Rattle.literals.specs.Signed.{Signed}
use Rattle.clause_store.specs.Stored.{Kept, Propagated, Stored, IsFalseOn}
use Rattle.clause_store.specs.Found.{HasKept, Outcomes}
use Rattle.clause_store.specs.declared.trail.Step.{Step}
use Rattle.clause_store.specs.declared.store.Outcome.{Outcome}
use Rattle.clause_store.specs.declared.store.Outcome.TheVariants.{Fixpoint, False as Conflict}
use Rattle.clause_store.specs.Entries.{Entry, entry_at, zero_literal}

-- a store together with the count, and how many steps are gone through
pub record Counted : Type 0 where
  pub stored : Stored
  pub looks : ℕ
  pub settled : ℕ

-- at a fixpoint all steps are gone through
abbrev pub SettlesAll : Counted → Outcome → Type 0
SettlesAll c Fixpoint = c.settled ≡ length c.stored.trail.steps
SettlesAll c (Conflict id) = Unit {0}

-- the clause at this place is kept and has the literal
pub record HasLiteral (es : List Entry) (l : Signed) (i : ℕ) : Type 0 where
  pub live : (entry_at es i).live ≡ true
  pub contained : Contains (entry_at es i).literals l

-- no number is there twice
abbrev pub AreApart : List ℕ → Type 0
AreApart ns = (j k : ℕ) → j < length ns → k < length ns → slice_index_or ns j 0 ≡ slice_index_or ns k 0 → j ≡ k

-- the count rises by no more than the number of kept clauses that have the literal
pub record LooksAt (l : Signed) (es : List Entry) (old new : ℕ) : Type 0 where
  pub rows : List ℕ
  pub apart : AreApart rows
  pub having : All (HasLiteral es l) rows
  pub bound : new ≤ old + length rows

-- a clause, by its id, and a literal
pub record Pair : Type 0 where
  pub id : ℕ
  pub literal : Signed

abbrev pub no_pair : Pair
no_pair = record { id = 0; literal = zero_literal }

abbrev pub NoneTwice : List Pair → Type 0
NoneTwice ps = (j k : ℕ) → j < length ps → k < length ps → slice_index_or ps j no_pair ≡ slice_index_or ps k no_pair → j ≡ k

-- the count rises by no more than the number of pairs of a kept clause and one of its literals that these steps make false
pub record LooksBy (steps : List Step) (clauses : List Kept) (old new : ℕ) : Type 0 where
  pub pairs : List Pair
  pub none_twice : NoneTwice pairs
  pub having : All (λ (p : Pair). HasKept clauses p.id (λ ls. Contains ls p.literal)) pairs
  pub are_false : All (λ (p : Pair). IsFalseOn steps p.literal) pairs
  pub bound : new ≤ old + length pairs

-- propagation, with the looks that it takes, and what it ends with
pub record PropagatesTo (old new : Counted) (result : Outcome) : Type 0 where
  pub reached : Propagated old.stored new.stored
  pub looks : old.looks ≤ new.looks
  pub settled : SettlesAll new result
  pub bounded : LooksBy (drop old.settled new.stored.trail.steps) old.stored.clauses old.looks new.looks
  pub outcome : Outcomes new.stored.trail.steps new.stored.clauses result

-- a clause is kept after the others, under the id that is answered, or none
pub record AddsClause (old new : Counted) (literals : List Signed) (level : ℕ) (result : Result ℕ AllocError) : Type 0 where
  pub added : IfOk result (λ id. let kept : Kept = record { id = id; literals = literals; level = level } in new.stored ≡ record old.stored { clauses = old.stored.clauses ++ kept ∷ [] })
  pub same : OnErr result (new.stored ≡ old.stored)
  pub settled : new.settled ≡ old.settled
  pub looks : new.looks ≡ old.looks
