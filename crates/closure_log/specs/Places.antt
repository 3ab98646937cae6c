-- Where literals stand in a log.
use Rattle.std.specs.Prelude.{◌≡◌, ℕ, ◌<◌, List, length, slice_index_or}
use Rattle.literals.specs.Signed.{Signed}

-- each literal of the log stands at the place of its atom
pub record ArePlaces (log : List Signed) (places : List ℕ) : Type 0 where
  pub at : (j : ℕ) (l : Signed) → j < length log → slice_index_or log j l ≡ l → slice_index_or places l.atom 0 ≡ j
