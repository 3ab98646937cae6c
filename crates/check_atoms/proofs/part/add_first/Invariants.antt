use Rattle.std.proofs.Common.{◌≡◌, ◌++◌, drop}
use Rattle.check_atoms.specs.PartAtoms.{sort_in, first_with}
use Rattle.check_atoms.proofs.part.add_first.Given as goal

abbrev pub invariant-loop-place : goal.invariant-loop-place
invariant-loop-place l = (l.atoms.items ++ first_with (sort_in l.sorts) l.first (drop l.place-index l.others)) ≡ (l.fn.atoms.items ++ first_with (sort_in l.sorts) l.first l.others)
