use Rattle.std.proofs.Common.{◌≡◌, ◌++◌, drop}
use Rattle.check_atoms.specs.PartAtoms.{sort_in, each_two}
use Rattle.check_atoms.proofs.part.add_each_two.Given as goal

abbrev pub invariant-loop-at : goal.invariant-loop-at
invariant-loop-at l = (l.atoms.items ++ each_two (sort_in l.sorts) (drop l.at l.places)) ≡ (l.fn.atoms.items ++ each_two (sort_in l.sorts) l.places)
