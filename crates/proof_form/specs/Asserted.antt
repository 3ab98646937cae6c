-- The assertions by their places among the terms of a stack.
use Rattle.std.specs.Prelude.{ℕ, List, map}
use Rattle.smt_meaning.specs.Term.{Tree, tree_at}

abbrev pub asserted_at : List Tree → List ℕ → List Tree
asserted_at held is = map (λ i. tree_at held i) is
