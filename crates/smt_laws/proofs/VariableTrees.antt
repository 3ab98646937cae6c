-- The trees of variables, as those of a scope.
use Rattle.std.proofs.Common.{List, [], ◌∷◌, ◌++◌, map}
use Rattle.smt_meaning.specs.Term.{Tree}
use Rattle.smt_meaning.specs.Sorts.{Scope, Variable}
use Rattle.smt_laws.proofs.Among.{Among, among_first, among_rest}

abbrev pub tree_of : Variable → Tree
tree_of v = v.term.tree

pub among_them : (us vs : List Variable) (v : Variable) → Among v.term.tree (map tree_of (us ++ v ∷ vs))
among_them [] vs v = among_first v.term.tree (map tree_of vs)
among_them (u ∷ us) vs v = among_rest v.term.tree u.term.tree (map tree_of (us ++ v ∷ vs)) (among_them us vs v)

abbrev pub with_trees : Scope → List Variable → Scope
with_trees s vs = record s { trees = map tree_of vs }
