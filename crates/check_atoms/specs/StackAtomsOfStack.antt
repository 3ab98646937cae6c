-- The terms that take part in the check of a stack.
use Rattle.std.specs.Prelude.{◌≡◌, ℕ, Bool, List}
use Rattle.smt_meaning.specs.Term.{Tree, tree_at}
use Rattle.check_atoms.specs.Parts.{IsMarked}

-- the term takes part
pub record HasPlace (trees : List Tree) (marks : List Bool) (t : Tree) : Type 0 where
  pub place : ℕ
  pub marked : IsMarked marks place
  pub tree : tree_at trees place ≡ t
