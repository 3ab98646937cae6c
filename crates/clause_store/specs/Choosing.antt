-- Two watched literals of a new clause.
use Rattle.std.specs.Prelude.{◌≡◌, ◌⊎◌, ◌<◌, ℕ, List, [], ◌∷◌, ◌++◌, All, Contains, slice_set}
use Rattle.literals.specs.Signed.{Signed, packed}
use Rattle.clause_store.specs.Trail.{up_to}
use Rattle.clause_store.specs.declared.trail.Step.{Step}
use Rattle.clause_store.specs.Stored.{IsFalseOn}
use Rattle.clause_store.specs.Entries.{watches_of}
use Rattle.clause_store.specs.Rested.{OthersFalse}
use Rattle.clause_store.specs.declared.lists.Watch.{Watch}
use Rattle.clause_store.specs.declared.choose.Choice.{Choice}
use Rattle.clause_store.specs.declared.choose.Standing.{Standing}
use Rattle.clause_store.specs.declared.choose.Standing.TheVariants.{Awake, Waits}

-- wherever the one is false the other is
abbrev pub Outlasts : List Step → Signed → Signed → Type 0
Outlasts steps a b = (d : ℕ) → IsFalseOn (up_to d steps) a → IsFalseOn (up_to d steps) b

-- two literals, neither of which is false
pub record AreOpen (steps : List Step) (a b : Signed) : Type 0 where
  pub apart : a ≡ b → ⊥
  pub first : IsFalseOn steps a → ⊥
  pub second : IsFalseOn steps b → ⊥

-- neither is false, or so it is below a depth, from which on all but the first are false
abbrev pub Stands : List Step → List Signed → Signed → Signed → Standing → Type 0
Stands steps ls a b Awake = AreOpen steps a b
Stands steps ls a b (Waits depth) = OthersFalse (up_to depth steps) ls a × ((d : ℕ) → d < depth → AreOpen (up_to d steps) a b)

pub record IsChoice (steps : List Step) (ls : List Signed) (c : Choice) : Type 0 where
  pub first : Contains ls c.first
  pub second : Contains ls c.second
  pub single : c.first ≡ c.second → All (λ m. m ≡ c.first) ls
  pub stands : Stands steps ls c.first c.second c.standing

abbrev pub Enlists : List (List Watch) → List (List Watch) → Signed → Watch → Type 0
Enlists old new l w = new ≡ slice_set old (packed l) (watches_of old l ++ w ∷ [])

-- a watch of the clause in the lists of its two watched literals, one where these are the same
abbrev pub EnlistsBoth : List (List Watch) → List (List Watch) → Signed → Signed → ℕ → Type 0
EnlistsBoth old new a b row =
    let v : Watch = record { blocker = b; row = row } in
    let w : Watch = record { blocker = a; row = row } in
    ((a ≡ b) × Enlists old new a v) ⊎ ((a ≡ b → ⊥) × ((mid : List (List Watch)) × Enlists old mid a v × Enlists mid new b w))
