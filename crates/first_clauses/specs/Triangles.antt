-- Equalities of two terms, and when two give a third.
use Rattle.std.specs.Prelude.{◌≡◌, ℕ, ◌<◌, true, List, [], ◌∷◌, length}
use Rattle.smt_meaning.specs.declared.values.Value.{Value}
use Rattle.smt_meaning.specs.declared.terms.Operator.{Operator}
use Rattle.smt_meaning.specs.declared.terms.Head.TheVariants.{Theory}
use Rattle.smt_meaning.specs.declared.clauses.Atom.{Atom}
use Rattle.smt_meaning.specs.Term.{Tree, Interpretation, tree_at, value, truth_of, same_value}
use Rattle.smt_meaning.specs.Clause.{atom_true}
use Rattle.term_store.specs.Terms.{tree_with}
use Rattle.search_port.specs.State.{atom_at}

-- the atom of this number is true exactly where the terms at these two places have one value
pub record IsEquality (trees : List Tree) (table : List Atom) (n i j : ℕ) : Type 0 where
  pub within : n < length table
  pub says : (I : Interpretation) → atom_true trees I (atom_at table n) ≡ same_value (value I (tree_at trees i)) (value I (tree_at trees j))

-- whatever values the places have: where the first two pairs have one value each, so has the third
abbrev pub Joins : ℕ → ℕ → ℕ → ℕ → ℕ → ℕ → Type 0
Joins a b c d x y = (v : ℕ → Value) → v a ≡ v b → v c ≡ v d → v x ≡ v y

-- the term at this place has this operator over the terms at the other two
abbrev pub IsOfTwo : List Tree → Operator → ℕ → ℕ → ℕ → Type 0
IsOfTwo trees o p i j = tree_at trees p ≡ tree_with trees (Theory o) (i ∷ j ∷ [])

-- wherever the term at the first place is true, those at the other two have one value
abbrev pub MakesSame : List Tree → ℕ → ℕ → ℕ → Type 0
MakesSame trees p i j = (I : Interpretation) → truth_of (value I (tree_at trees p)) ≡ true → value I (tree_at trees i) ≡ value I (tree_at trees j)

-- wherever the atom of this number is true, the terms at these places have one value
pub record NumberMakesSame (trees : List Tree) (table : List Atom) (n i j : ℕ) : Type 0 where
  pub within : n < length table
  pub makes : (I : Interpretation) → atom_true trees I (atom_at table n) ≡ true → value I (tree_at trees i) ≡ value I (tree_at trees j)
