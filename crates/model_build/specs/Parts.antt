-- The terms of a check, by their places in a list of trees.
use Rattle.std.specs.Prelude.{◌≡◌, ℕ, ◌<◌, Bool, List, length, All, Some}
use Rattle.smt_meaning.specs.declared.values.Sort.{Sort}
use Rattle.smt_meaning.specs.declared.terms.Head.{Head}
use Rattle.smt_meaning.specs.Declaration.{Declaration}
use Rattle.smt_meaning.specs.Term.{Tree, tree_at}
use Rattle.smt_meaning.specs.Signature.{tree_sort}
use Rattle.term_store.specs.Terms.{tree_with}
use Rattle.check_atoms.specs.Parts.{IsMarked}

-- terms with a sort, and with each its arguments
pub record AreSortedParts (ds : List Declaration) (trees : List Tree) (marks : List Bool) : Type 0 where
  pub size : length marks ≡ length trees
  pub sorted : (p : ℕ) → IsMarked marks p → (s : Sort) × (tree_sort ds (tree_at trees p) ≡ Some s)
  pub closed : (p : ℕ) (h : Head) (is : List ℕ) → IsMarked marks p → tree_at trees p ≡ tree_with trees h is → All (λ i. i < length trees) is → All (IsMarked marks) is
