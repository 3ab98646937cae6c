use Rattle.std.proofs.Common.{◌≡◌, ◌<◌, ◌++◌, drop, length}
use Rattle.check_atoms.specs.PartAtoms.{sort_in, neighbours_from}
use Rattle.check_atoms.proofs.part.add_neighbours.Given as goal

abbrev pub invariant-loop-place : goal.invariant-loop-place
invariant-loop-place l =
    (l.before < length l.sorts)
    × ((l.atoms.items ++ neighbours_from (sort_in l.sorts) l.before (drop l.place-index l.others)) ≡ (l.fn.atoms.items ++ neighbours_from (sort_in l.sorts) l.first l.others))
