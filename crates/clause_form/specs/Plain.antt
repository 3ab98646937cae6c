-- Literals and clauses over numbered atoms as those over places, each number read as a place; and a table of where an atom's literal stands in a list.
use Rattle.std.specs.Prelude.{◌≡◌, ℕ, ◌<◌, true, List, [], ◌∷◌, map, length, slice_index, slice_index_or}
use Rattle.literals.specs.Signed.{Signed}
use Rattle.smt_meaning.specs.Forced.{Sign}
use Rattle.clause_form.specs.Signs.{negated}
use Rattle.clause_form.specs.Node.{plain}

abbrev pub signs : List Signed → List Sign
signs ls = map plain ls

unfoldable pub sign_lists : List (List Signed) → List (List Sign)
sign_lists cs = map signs cs

abbrev pub pairs : Sign → List Sign → List (List Sign)
pairs out ss = map (λ (s : Sign). negated out ∷ s ∷ []) ss

abbrev pub atom_at : List Signed → ℕ → ℕ
atom_at ls k = (slice_index_or ls k (record { atom = 0; positive = true })).atom

-- at each literal's atom the table has the literal's place; what it has elsewhere doesn't matter
pub record IsPlaced (places : List ℕ) (ls : List Signed) : Type 0 where
  pub within : (k : ℕ) → k < length ls → atom_at ls k < length places
  pub at : (k : ℕ) → k < length ls → slice_index places (atom_at ls k) ≡ k
