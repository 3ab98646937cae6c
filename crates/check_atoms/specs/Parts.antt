-- The terms of a check without integers, by their places in a list of trees.
use Rattle.std.specs.Prelude.{◌≡◌, ◌≢◌, ℕ, ◌<◌, Bool, true, false, List, length, All, Some, slice_index_or}
use Rattle.smt_meaning.specs.declared.values.Sort.{Sort}
use Rattle.smt_meaning.specs.declared.values.Sort.TheVariants.{Int as Ints}
use Rattle.smt_meaning.specs.declared.terms.Head.{Head}
use Rattle.smt_meaning.specs.Declaration.{Declaration}
use Rattle.smt_meaning.specs.Term.{Tree, tree_at}
use Rattle.smt_meaning.specs.Signature.{tree_sort}
use Rattle.term_store.specs.Terms.{tree_with}

-- the term at this place takes part
abbrev pub IsMarked : List Bool → ℕ → Type 0
IsMarked marks p = slice_index_or marks p false ≡ true

-- it has a sort, which isn't Int
pub record HasNoIntSort (ds : List Declaration) (t : Tree) : Type 0 where
  pub sort : Sort
  pub has : tree_sort ds t ≡ Some sort
  pub not_int : sort ≢ Ints

-- terms that are no Ints, and with each its arguments
pub record AreParts (ds : List Declaration) (trees : List Tree) (marks : List Bool) : Type 0 where
  pub size : length marks ≡ length trees
  pub sorted : (p : ℕ) → IsMarked marks p → HasNoIntSort ds (tree_at trees p)
  pub closed : (p : ℕ) (h : Head) (is : List ℕ) → IsMarked marks p → tree_at trees p ≡ tree_with trees h is → All (λ i. i < length trees) is → All (IsMarked marks) is
