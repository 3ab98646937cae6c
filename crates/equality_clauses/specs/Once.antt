-- Numbers each once.
use Rattle.std.specs.Prelude.{◌≡◌, ℕ, ◌<◌, ◌||◌, Bool, false, nat_eq, List, [], ◌∷◌, ◌++◌, length, slice_index, if◌then◌else◌}

abbrev pub is_in : ℕ → List ℕ → Bool
is_in n [] = false
is_in n (m ∷ ms) = nat_eq n m || is_in n ms

-- with one more, unless it is there
abbrev pub taken : List ℕ → ℕ → List ℕ
taken kept n = if is_in n kept then kept else kept ++ n ∷ []

abbrev pub taken_all : List ℕ → List ℕ → List ℕ
taken_all kept [] = kept
taken_all kept (n ∷ ns) = taken_all (taken kept n) ns

-- of several the first stays
abbrev pub once : List ℕ → List ℕ
once ns = taken_all [] ns

-- at each number that is kept the table has its place; what it has elsewhere doesn't matter
pub record IsPlaced (places kept : List ℕ) : Type 0 where
  pub within : (k : ℕ) → k < length kept → slice_index kept k < length places
  pub at : (k : ℕ) → k < length kept → slice_index places (slice_index kept k) ≡ k
