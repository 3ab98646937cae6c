use Rattle.std.proofs.Common.{take}
use Rattle.search_port.specs.State.{truth_atoms}
use Rattle.first_clauses.specs.Numbers.{AreNumbers}
use Rattle.first_clauses.proofs.bools.truth_numbers.Given as goal

abbrev pub invariant-loop-place : goal.invariant-loop-place
invariant-loop-place l = AreNumbers l.atoms.atoms (truth_atoms (take l.place-index l.places)) l.numbers.items
