-- Terms of a body in a store of their own.
use Rattle.std.specs.Prelude.{◌≡◌, ℕ, ◌<◌, List, map, length, All}
use Rattle.smt_meaning.specs.Term.{Tree, tree_at}

-- these terms stand at these places of a list
pub record AreStored (terms ts : List Tree) (places : List ℕ) : Type 0 where
  pub trees : map (tree_at ts) places ≡ terms
  pub within : All (λ i. i < length ts) places
