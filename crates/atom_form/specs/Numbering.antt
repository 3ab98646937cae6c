-- Keys by number, each once and found by a hash, and the number of a key.
use Rattle.std.specs.Prelude.{◌≡◌, ◌≢◌, ℕ, ◌<◌, Bool, true, false, List, [], ◌∷◌, ◌++◌, map, length, Contains, AllPairs, slice_index_or}

-- the key stands at this place
abbrev pub IsAt : {K : Type 0} → List K → ℕ → K → Type 0
IsAt {K} items k x = (k < length items) × ((d : K) → slice_index_or items k d ≡ x)

-- the key has this number in the new list, which goes on only where the number is new
pub record Numbered {K : Type 0} (old new : List K) (x : K) (k : ℕ) (is_new : Bool) : Type 0 where
  pub at : IsAt new k x
  pub added : is_new ≡ true → (new ≡ old ++ x ∷ []) × (Contains old x → ⊥)
  pub same : is_new ≡ false → new ≡ old

-- no key has two numbers
abbrev pub AreApart : {K : Type 0} → List K → Type 0
AreApart {K} items = AllPairs (λ (a b : K). a ≢ b) items

-- how they are kept: with their hashes, none twice
pub record IsTable {K : Type 0} (hash_of : K → ℕ) (items : List K) (hashes : List ℕ) : Type 0 where
  pub hashed : hashes ≡ map hash_of items
  pub apart : AreApart items
