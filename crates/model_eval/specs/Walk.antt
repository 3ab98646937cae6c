-- How a term's parts are found and evaluated, a place at a time.
use Rattle.std.specs.Prelude.{◌≡◌, ◌⊎◌, ℕ, zero, suc, ◌<◌, ◌≤◌, Bool, true, false, List, [], ◌∷◌, ◌++◌, length, All, IsTrue, IsFalse, slice_index, slice_index_or}
use Rattle.smt_meaning.specs.declared.values.Value.{Value}
use Rattle.smt_meaning.specs.declared.values.Value.TheVariants.{Truth}
use Rattle.smt_meaning.specs.Term.{Tree, Trees, node, none, more, tree_at, Interpretation, value, fits}
use Rattle.model_eval.specs.Unfit.{IsPartOfAny, fits_alone}
use Rattle.model_eval.specs.declared.EvalError.{EvalError}
use Rattle.model_eval.specs.declared.EvalError.TheVariants.{Range, Memory}

-- the tree is one of these
abbrev pub IsOneOf : Tree → Trees → Type 0
IsOneOf s none = ⊥
IsOneOf s (more t ts) = (s ≡ t) ⊎ IsOneOf s ts

abbrev pub IsArgument : Tree → Tree → Type 0
IsArgument s (node h ts) = IsOneOf s ts

abbrev pub is_marked : List Bool → ℕ → Bool
is_marked marks i = slice_index_or marks i false

-- a marked place where the tree stands
pub record IsMarkedPlace (trees : List Tree) (marks : List Bool) (t : Tree) (i : ℕ) : Type 0 where
  pub within : i < length trees
  pub here : tree_at trees i ≡ t
  pub marked : is_marked marks i ≡ true

-- each argument of the tree at a place stands at a marked place
abbrev pub HasMarkedArguments : List Tree → List Bool → ℕ → Type 0
HasMarkedArguments trees marks i = (u : Tree) → IsArgument u (tree_at trees i) → (j : ℕ) × IsMarkedPlace trees marks u j

-- of the places below a top, some are marked down to a bound: those of the terms and of parts of them, with all arguments of those at the bound or above
pub record AreMarked (trees : List Tree) (terms : List ℕ) (top bound : ℕ) (marks : List Bool) : Type 0 where
  pub size : length marks ≡ top
  pub roots : All (λ i. is_marked marks i ≡ true) terms
  pub parts : (i : ℕ) → is_marked marks i ≡ true → IsPartOfAny trees terms (tree_at trees i)
  pub closed : (i : ℕ) → bound ≤ i → is_marked marks i ≡ true → HasMarkedArguments trees marks i

-- marks, and these places besides
pub record AreAdded (places : List ℕ) (marks marks' : List Bool) : Type 0 where
  pub size : length marks' ≡ length marks
  pub kept : (i : ℕ) → is_marked marks i ≡ true → is_marked marks' i ≡ true
  pub added : All (λ i. is_marked marks' i ≡ true) places
  pub others : (i : ℕ) → is_marked marks' i ≡ true → (is_marked marks i ≡ true) ⊎ ((k : ℕ) × (k < length places) × (slice_index places k ≡ i))

-- the trees so far, and one more where its place is marked
abbrev pub with_part : Bool → Tree → List Tree → List Tree
with_part true t parts = parts ++ t ∷ []
with_part false t parts = parts

-- the trees at the marked places below a bound
abbrev pub parts_below : List Tree → List Bool → ℕ → List Tree
parts_below trees marks zero = []
parts_below trees marks (suc n) = with_part (is_marked marks n) (tree_at trees n) (parts_below trees marks n)

-- ---- values

-- the value that is kept for a place
abbrev pub value_at : List ℕ → List Value → ℕ → Value
value_at slots vs i = slice_index_or vs (slice_index slots i) (Truth false)

-- the value of a marked place is kept, and it fits
pub record IsKept (I : Interpretation) (trees : List Tree) (slots : List ℕ) (vs : List Value) (i : ℕ) : Type 0 where
  pub slot : slice_index slots i < length vs
  pub value : value_at slots vs i ≡ value I (tree_at trees i)
  pub fits : IsTrue (fits I (tree_at trees i))

-- the values of the marked places so far
pub record AreKept (I : Interpretation) (trees : List Tree) (marks : List Bool) (slots : List ℕ) (vs : List Value) : Type 0 where
  pub few : length vs ≤ length slots
  pub kept : (i : ℕ) → i < length slots → is_marked marks i ≡ true → IsKept I trees slots vs i

-- the tree at this marked place doesn't fit by itself, where it isn't memory that is wanting
abbrev pub IsUnfitAt : Interpretation → List Tree → List Bool → ℕ → EvalError → Type 0
IsUnfitAt I trees marks i (Range k) = (k ≡ i) × (is_marked marks i ≡ true) × IsFalse (fits_alone I (tree_at trees i))
IsUnfitAt I trees marks i Memory = Unit {0}
