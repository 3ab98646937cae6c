-- The parts of a term, and lists of different terms in which each stands after its parts.
use Rattle.std.specs.Prelude.{◌≡◌, ◌⊎◌, ℕ, ◌<◌, List, length}
use Rattle.smt_meaning.specs.Term.{Tree, Trees, node, none, more, tree_at}

abbrev mutual
  -- the tree is the term, or a part of one of its arguments
  pub IsPart : Tree → Tree → Type 0
  IsPart s (node h ts) = (s ≡ node h ts) ⊎ IsPartOfOne s ts

  pub IsPartOfOne : Tree → Trees → Type 0
  IsPartOfOne s none = ⊥
  IsPartOfOne s (more t ts) = IsPart s t ⊎ IsPartOfOne s ts

-- the tree is one of these
abbrev pub IsOneOf : Tree → Trees → Type 0
IsOneOf s none = ⊥
IsOneOf s (more t ts) = (s ≡ t) ⊎ IsOneOf s ts

abbrev pub IsArgument : Tree → Tree → Type 0
IsArgument s (node h ts) = IsOneOf s ts

-- a place of the list below a bound, at which the tree stands
abbrev pub StandsBelow : List Tree → ℕ → Tree → Type 0
StandsBelow ts bound t = (i : ℕ) × (i < bound) × (i < length ts) × (tree_at ts i ≡ t)

-- the trees are different, and each stands after its arguments
pub record AreInOrder (ts : List Tree) : Type 0 where
  pub different : (i j : ℕ) → i < length ts → j < length ts → tree_at ts i ≡ tree_at ts j → i ≡ j
  pub after_arguments : (i : ℕ) (u : Tree) → i < length ts → IsArgument u (tree_at ts i) → StandsBelow ts i u
