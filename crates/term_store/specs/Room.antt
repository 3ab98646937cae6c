-- Terms of one list that are put behind those of another.
use Rattle.std.specs.Prelude.{ℕ, ◌<◌, List, length, slice_index}
use Rattle.smt_meaning.specs.Term.{Tree, tree_at}
use Rattle.term_store.specs.Terms.{IsPlace}

-- the places, in the list of these trees, of the first of others
abbrev pub ArePlaces : List Tree → List ℕ → List Tree → Type 0
ArePlaces others places ts = (k : ℕ) → k < length places → IsPlace ts (slice_index places k) (tree_at others k)
