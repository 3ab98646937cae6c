-- Sums by number, and how they are kept: one list of summands, and where each sum stands in it.
use Rattle.std.specs.Prelude.{◌≡◌, ◌≢◌, ℕ, ◌<◌, ◌≤◌, Bool, true, false, List, [], ◌∷◌, ◌++◌, map, length, Contains, AllPairs, slice_index_or, slice_range}
use Rattle.smt_meaning.specs.declared.clauses.Summand.{Summand}
use Rattle.atom_form.specs.declared.sum_table.Span.{Span}
use Rattle.atom_form.specs.SumTableHash.{sum_hash}

-- the sum stands at this place
abbrev pub IsAt : List (List Summand) → ℕ → List Summand → Type 0
IsAt sums k s = (k < length sums) × ((d : List Summand) → slice_index_or sums k d ≡ s)

-- the sum has this number in the new list, which goes on only where the number is new
pub record Numbered (old new : List (List Summand)) (s : List Summand) (k : ℕ) (is_new : Bool) : Type 0 where
  pub at : IsAt new k s
  pub added : is_new ≡ true → (new ≡ old ++ s ∷ []) × (Contains old s → ⊥)
  pub same : is_new ≡ false → new ≡ old

-- no sum has two numbers
abbrev pub AreApart : List (List Summand) → Type 0
AreApart sums = AllPairs (λ (s t : List Summand). s ≢ t) sums

-- ---- how they are kept

abbrev pub sum_in : List Summand → Span → List Summand
sum_in all s = slice_range all s.start s.end

abbrev pub sums_in : List Summand → List Span → List (List Summand)
sums_in all spans = map (sum_in all) spans

-- each sum is a part of the list
pub record AreLaid (size : ℕ) (spans : List Span) : Type 0 where
  pub starts : (k : ℕ) (d : Span) → k < length spans → (slice_index_or spans k d).start ≤ (slice_index_or spans k d).end
  pub ends : (k : ℕ) (d : Span) → k < length spans → (slice_index_or spans k d).end ≤ size

-- the sums with their hashes, none twice
pub record IsTable (all : List Summand) (spans : List Span) (keys : List ℕ) : Type 0 where
  pub laid : AreLaid (length all) spans
  pub hashed : keys ≡ map sum_hash (sums_in all spans)
  pub apart : AreApart (sums_in all spans)
