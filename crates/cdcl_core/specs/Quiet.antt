-- How long the literals of a clause aren't false, and from when on one is true.
use Rattle.std.specs.Prelude.{◌≡◌, ℕ, ◌+◌, ◌^◌, ◌<◌, ◌≤◌, ◌⊎◌, List, All, Contains}
use Rattle.literals.specs.Signed.{Signed}
use Rattle.clause_store.specs.declared.trail.Step.{Step}
use Rattle.clause_store.specs.Trail.{Assigns, up_to}
use Rattle.clause_store.specs.Stored.{IsFalseOn}
use Rattle.cdcl_core.specs.declared.quiet.Span.{Span}
use Rattle.cdcl_core.specs.declared.quiet.Latest.{Latest}

-- it isn't false below this depth
abbrev pub LastsTo : List Step → Signed → ℕ → Type 0
LastsTo steps l depth = (d : ℕ) → d < depth → IsFalseOn (up_to d steps) l → ⊥

-- it is false from this depth on
abbrev pub FallsFrom : List Step → Signed → ℕ → Type 0
FallsFrom steps l depth = (d : ℕ) → depth ≤ d → d + 1 < 2 ^ 32 → IsFalseOn (up_to d steps) l

-- it isn't true below this depth
abbrev pub IsUntrueTo : List Step → Signed → ℕ → Type 0
IsUntrueTo steps l depth = (d : ℕ) → d < depth → Assigns (up_to d steps) l → ⊥

pub record Lasts (steps : List Step) (l : Signed) (s : Span) : Type 0 where
  pub until : LastsTo steps l s.until
  pub falls : FallsFrom steps l s.until
  pub from : (d : ℕ) → s.from ≤ d → d + 1 < 2 ^ 32 → Assigns (up_to d steps) l
  pub untrue : IsUntrueTo steps l s.from

-- two of these literals aren't false
pub record HasTwo (steps : List Step) (ls : List Signed) : Type 0 where
  pub one : Signed
  pub other : Signed
  pub one_in : Contains ls one
  pub other_in : Contains ls other
  pub differ : one ≡ other → ⊥
  pub one_lasts : IsFalseOn steps one → ⊥
  pub other_lasts : IsFalseOn steps other → ⊥

-- one of these literals is true
pub record HasTrue (steps : List Step) (ls : List Signed) : Type 0 where
  pub one : Signed
  pub one_in : Contains ls one
  pub is_true : Assigns steps one

pub record IsLatest (steps : List Step) (ls : List Signed) (s : Latest) : Type 0 where
  pub stands : Contains ls s.literal
  pub until : LastsTo steps s.literal s.until
  pub both : (d : ℕ) → d < s.both → HasTwo (up_to d steps) ls
  pub from : (d : ℕ) → s.from ≤ d → d + 1 < 2 ^ 32 → HasTrue (up_to d steps) ls

-- of these literals all but the one are false from depth `both` on, and none is true below depth `from`
pub record IsLongest (steps : List Step) (ls : List Signed) (s : Latest) : Type 0 where
  pub falls : FallsFrom steps s.literal s.until
  pub others : All (λ m. (m ≡ s.literal) ⊎ FallsFrom steps m s.both) ls
  pub untrue : All (λ m. IsUntrueTo steps m s.from) ls
  pub order : s.both ≤ s.until
