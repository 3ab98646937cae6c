-- Which part of a term is the first that has no value within the range.
use Rattle.std.specs.Prelude.{◌≡◌, ◌⊎◌, ℕ, ◌<◌, Bool, List, length, slice_index, IsTrue, IsFalse}
use Rattle.smt_meaning.specs.Term.{Tree, Trees, node, none, more, tree_at, Interpretation, values, fits, head_fits}
use Rattle.model_eval.specs.declared.EvalError.{EvalError}
use Rattle.model_eval.specs.declared.EvalError.TheVariants.{Range, Memory}

abbrev mutual
  -- the tree is the term, or a part of one of its arguments
  pub IsPart : Tree → Tree → Type 0
  IsPart s (node h ts) = (s ≡ node h ts) ⊎ IsPartOfOne s ts

  pub IsPartOfOne : Tree → Trees → Type 0
  IsPartOfOne s none = ⊥
  IsPartOfOne s (more t ts) = IsPart s t ⊎ IsPartOfOne s ts

-- the tree is one of those at these places, or a part of one
abbrev pub IsPartOfAny : List Tree → List ℕ → Tree → Type 0
IsPartOfAny trees places s = (k : ℕ) × (k < length places) × IsPart s (tree_at trees (slice_index places k))

-- the value, and the partial results from the left, are in the range
abbrev pub fits_alone : Interpretation → Tree → Bool
fits_alone I (node h ts) = head_fits I h (values I ts)

-- of the parts of a term, the first in the list that doesn't fit by itself
pub record IsFirstUnfit (I : Interpretation) (trees : List Tree) (t : Tree) (i : ℕ) : Type 0 where
  pub place : i < length trees
  pub part : IsPart (tree_at trees i) t
  pub unfit : IsFalse (fits_alone I (tree_at trees i))
  pub first : (j : ℕ) → j < i → IsPart (tree_at trees j) t → IsTrue (fits_alone I (tree_at trees j))

-- of the parts of the terms at these places, the first in the list that doesn't fit by itself
pub record IsFirstUnfitOfAny (I : Interpretation) (trees : List Tree) (places : List ℕ) (i : ℕ) : Type 0 where
  pub place : i < length trees
  pub part : IsPartOfAny trees places (tree_at trees i)
  pub unfit : IsFalse (fits_alone I (tree_at trees i))
  pub first : (j : ℕ) → j < i → IsPartOfAny trees places (tree_at trees j) → IsTrue (fits_alone I (tree_at trees j))

-- why terms aren't evaluated: one of them doesn't fit, and the first part is named that doesn't fit by itself
abbrev pub IsCauseOfAny : Interpretation → List Tree → List ℕ → EvalError → Type 0
IsCauseOfAny I trees places (Range i) =
    ((k : ℕ) × (k < length places) × IsFalse (fits I (tree_at trees (slice_index places k)))) × IsFirstUnfitOfAny I trees places i
IsCauseOfAny I trees places Memory = Unit {0}

-- why a term isn't evaluated: it doesn't fit, and the first part is named that doesn't fit by itself
abbrev pub IsCause : Interpretation → List Tree → Tree → EvalError → Type 0
IsCause I trees t (Range i) = IsFalse (fits I t) × IsFirstUnfit I trees t i
IsCause I trees t Memory = Unit {0}
