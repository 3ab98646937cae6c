-- The newest item of a name, where items come in order.
use Rattle.std.specs.Prelude.{◌≡◌, ℕ, ◌<◌, ◌/◌, ◌^◌, List, [], ◌∷◌, map, reverse, length, slice_index_or, Option, Some, None, bytes_eq, if◌then◌else◌}
use Rattle.term_store.specs.Hash.{words_state}

-- the first item of a name, where each item has one
abbrev pub first_named : {T : Type 0} → (T → List ℕ) → List ℕ → List T → Option T
first_named name n [] = None
first_named name n (x ∷ xs) = if bytes_eq n (name x) then Some x else first_named name n xs

-- the last item of a name
abbrev pub newest_named : {T : Type 0} → (T → List ℕ) → List ℕ → List T → Option T
newest_named name n xs = first_named name n (reverse xs)

-- the item at a place is the last one of a name
pub record IsNewest {T : Type 0} (name : T → List ℕ) (n : List ℕ) (xs : List T) (i : ℕ) : Type 0 where
  pub within : i < length xs
  pub newest : (d : T) → newest_named name n xs ≡ Some (slice_index_or xs i d)

-- the upper half of the last state
unfoldable pub name_hash : List ℕ → ℕ
name_hash n = words_state 5 n / 2 ^ 32

abbrev pub hashes_of : {T : Type 0} → (T → List ℕ) → List T → List ℕ
hashes_of {T} name xs = map (λ (x : T). name_hash (name x)) xs
