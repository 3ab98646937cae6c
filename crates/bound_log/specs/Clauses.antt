-- The clauses of branches and of equalities of Ints, over numbered atoms.
use Rattle.std.specs.Prelude.{◌≡◌, ◌≢◌, ℕ, ◌<◌, true, false, List, [], ◌∷◌, map, length, ℤ}
use Rattle.literals.specs.Signed.{Signed}
use Rattle.smt_meaning.specs.declared.clauses.Atom.{Atom}
use Rattle.smt_meaning.specs.declared.clauses.Atom.TheVariants.{Same}
use Rattle.smt_meaning.specs.Declaration.{Declaration}
use Rattle.smt_meaning.specs.Term.{Interpretation}
use Rattle.smt_meaning.specs.Interpretation.{Interprets}
use Rattle.smt_meaning.specs.Clause.{value_at}
use Rattle.search_port.specs.State.{TheoryState, atom_at}
use Rattle.search_port.specs.declared.budget.Lemma.{Lemma}
use Rattle.int_branch.specs.Branch.{below, above, either_sign}
use Rattle.bound_clauses.specs.declared.orders.Sense.TheVariants.{NotAbove}
use Rattle.bound_clauses.specs.Orders.{order, bound_atom}
use Rattle.bound_clauses.specs.Ties.{equal_clauses}
use Rattle.bound_clauses.specs.Laws.{IsReadable, IsNumber}

-- the clause at level 0
abbrev pub at_bottom : List Signed → Lemma
at_bottom ls = record { literals = ls; level = 0 }

-- ---- branches

-- one of the two holds, and one doesn't
abbrev pub branch_clauses : ℕ → ℕ → List Lemma
branch_clauses m n = map at_bottom (either_sign m n true ∷ either_sign m n false ∷ [])

-- the numbers are those of the two sides of a branch
pub record IsBranchOf (table : List Atom) (m n term : ℕ) (floor : ℤ) : Type 0 where
  pub low : m < length table
  pub high : n < length table
  pub is_below : atom_at table m ≡ below term floor
  pub is_above : atom_at table n ≡ above term floor

-- ---- equalities

-- the equality holds exactly where both bounds do
abbrev pub tie_clauses : ℕ → ℕ → ℕ → List Lemma
tie_clauses same low high = map at_bottom (equal_clauses same low high)

-- the numbers are those of the equality of two Ints, and of the bounds that neither is above the other
pub record AreTied (ds : List Declaration) (t : TheoryState) (same low high i j : ℕ) : Type 0 where
  pub same_within : same < length t.reading.table
  pub low_within : low < length t.reading.table
  pub high_within : high < length t.reading.table
  pub other_than_low : same ≢ low
  pub other_than_high : same ≢ high
  pub is_same : atom_at t.reading.table same ≡ Same i j
  pub is_low : atom_at t.reading.table low ≡ bound_atom t.reading.trees (order NotAbove i j)
  pub is_high : atom_at t.reading.table high ≡ bound_atom t.reading.trees (order NotAbove j i)
  pub left : IsReadable t.reading.trees i
  pub right : IsReadable t.reading.trees j
  pub left_number : (I : Interpretation) → Interprets ds I → IsNumber (value_at t.reading.trees I i)
  pub right_number : (I : Interpretation) → Interprets ds I → IsNumber (value_at t.reading.trees I j)
