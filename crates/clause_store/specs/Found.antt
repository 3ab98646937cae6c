-- What a look at clauses finds.
use Rattle.std.specs.Prelude.{◌≡◌, ℕ, List, All, Contains}
use Rattle.literals.specs.Signed.{Signed}
use Rattle.clause_store.specs.Trail.{Step}
use Rattle.clause_store.specs.Stored.{Kept, AllFalse, IsQuiet}
use Rattle.clause_store.specs.declared.store.Outcome.{Outcome}
use Rattle.clause_store.specs.declared.store.Outcome.TheVariants.{Fixpoint, False as Conflict}

-- the kept clause of this id has this fact
abbrev pub HasKept : List Kept → ℕ → (List Signed → Type 0) → Type 0
HasKept clauses id P = (c : Kept) × Contains clauses c × (c.id ≡ id) × P c.literals

-- the kept clause of this id has this level
abbrev pub HasLevel : List Kept → ℕ → ℕ → Type 0
HasLevel clauses id level = (c : Kept) × Contains clauses c × (c.id ≡ id) × (c.level ≡ level)

abbrev pub Outcomes : List Step → List Kept → Outcome → Type 0
Outcomes steps clauses Fixpoint = All (λ (c : Kept). IsQuiet steps c.literals) clauses
Outcomes steps clauses (Conflict id) = HasKept clauses id (AllFalse steps)
