-- Which terms are Bools.
use Rattle.std.specs.Prelude.{ℕ, Bool, List}
use Rattle.smt_meaning.specs.Declaration.{Declaration}
use Rattle.smt_meaning.specs.Term.{Tree, tree_at}
use Rattle.smt_meaning.specs.Signature.{tree_sort, is_bool}

-- the term at this place is a Bool
abbrev pub is_bool_at : List Declaration → List Tree → ℕ → Bool
is_bool_at ds trees p = is_bool (tree_sort ds (tree_at trees p))
