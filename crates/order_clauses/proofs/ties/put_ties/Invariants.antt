use Rattle.std.proofs.Common.{◌≡◌, ◌++◌, map, take, All, Contains}
use Rattle.std.specs.Prelude.{flat_map}
use Rattle.order_clauses.specs.Clauses.{same_number, tie}
use Rattle.order_clauses.specs.Needed.{atoms_of_pair}
use Rattle.order_clauses.proofs.ties.put_ties.Given as goal

abbrev pub ghost-put_tie : goal.ghost-put_tie
ghost-put_tie g a = g.trees

abbrev pub invariant-loop-pair : goal.invariant-loop-pair
invariant-loop-pair g l =
    (l.forms ≡ l.fn.forms)
    × (l.numbers.items ≡ map (same_number l.atoms.atoms) (take l.pair-index l.pairs))
    × All (Contains l.atoms.atoms) (flat_map (atoms_of_pair g.trees l.are_ints) (take l.pair-index l.pairs))
    × (l.clauses ≡ l.fn.clauses ++ flat_map (tie g.trees l.atoms.atoms l.are_ints) (take l.pair-index l.pairs))
