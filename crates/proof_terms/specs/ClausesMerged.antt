-- Two ascending lists as one, each without one of its codes.
use Rattle.std.specs.Prelude.{◌≡◌, ◌≢◌, ◌⊎◌, ℕ, ◌<◌, ◌≤◌, List, [], ◌∷◌, ◌++◌, length, Contains, slice_index, slice_index_or}
use Rattle.proof_terms.specs.Kept.{AreAscending}
use Rattle.proof_terms.specs.declared.clauses_merge.Next.{Next}
use Rattle.proof_terms.specs.declared.clauses_merge.Next.TheVariants.{Left, Right, Both}

-- what stands in one of them
pub record IsResolvent (left right : List ℕ) (code negation : ℕ) (merged : List ℕ) : Type 0 where
  pub ascending : AreAscending merged
  pub from_left : (c : ℕ) → Contains left c → c ≢ code → Contains merged c
  pub from_right : (c : ℕ) → Contains right c → c ≢ negation → Contains merged c
  pub only : (c : ℕ) → Contains merged c → (Contains left c × (c ≢ code)) ⊎ (Contains right c × (c ≢ negation))

-- the part of it that comes from what stands before two places
pub record IsMergedTo (left right : List ℕ) (code negation : ℕ) (i j : ℕ) (merged : List ℕ) : Type 0 where
  pub left_within : i ≤ length left
  pub right_within : j ≤ length right
  pub ascending : AreAscending merged
  pub below_left : (c k : ℕ) → Contains merged c → i ≤ k → k < length left → c < slice_index left k
  pub below_right : (c k : ℕ) → Contains merged c → j ≤ k → k < length right → c < slice_index right k
  pub from_left : (k : ℕ) → k < i → slice_index left k ≢ code → Contains merged (slice_index left k)
  pub from_right : (k : ℕ) → k < j → slice_index right k ≢ negation → Contains merged (slice_index right k)
  pub only : (c : ℕ) → Contains merged c → (Contains left c × (c ≢ code)) ⊎ (Contains right c × (c ≢ negation))

-- in which of the lists the least code stands, from two places on
abbrev pub IsNext : List ℕ → List ℕ → ℕ → ℕ → Next → Type 0
IsNext left right i j Left = (i < length left) × (j < length right → slice_index left i < slice_index right j)
IsNext left right i j Right = (j < length right) × (i < length left → slice_index right j < slice_index left i)
IsNext left right i j Both = (i < length left) × (j < length right) × (slice_index left i ≡ slice_index right j)

-- a code more, unless it is left out
abbrev pub IsPushedUnless : List ℕ → List ℕ → ℕ → ℕ → Type 0
IsPushedUnless old new code without = ((code ≡ without) × (new ≡ old)) ⊎ ((code ≢ without) × (new ≡ old ++ code ∷ []))

-- a clause more, from two
pub record IsResolved (old new : List (List ℕ)) (left right code negation : ℕ) : Type 0 where
  pub codes : List ℕ
  pub clauses : new ≡ old ++ codes ∷ []
  pub resolvent : IsResolvent (slice_index_or old left []) (slice_index_or old right []) code negation codes
