-- The complements of literals that are given as words.
use Rattle.std.specs.Prelude.{◌≡◌, ◌≢◌, ℕ, ◌<◌, List, length, slice_index, AllPairs, Contains, ◌⊎◌}
use Rattle.literals.specs.Signed.{Signed, opposite, unpacked}

-- a list with a literal more, which it has once
pub record IsPut (before : List Signed) (l : Signed) (now : List Signed) : Type 0 where
  pub keeps : (m : Signed) → Contains before m → Contains now m
  pub has : Contains now l
  pub only : (m : Signed) → Contains now m → Contains before m ⊎ (m ≡ l)
  pub once : AllPairs (λ (a b : Signed). a ≢ b) before → AllPairs (λ (a b : Signed). a ≢ b) now

-- the complement of the literal that a word stands for
abbrev pub complement : ℕ → Signed
complement tag = opposite (unpacked tag)

-- the literals are the complements of those words, none twice
pub record IsClauseOf (tags : List ℕ) (ls : List Signed) : Type 0 where
  pub each : (k : ℕ) → k < length tags → Contains ls (complement (slice_index tags k))
  pub only : (l : Signed) → Contains ls l → (k : ℕ) × (k < length tags) × (l ≡ complement (slice_index tags k))
  pub once : AllPairs (λ (a b : Signed). a ≢ b) ls
