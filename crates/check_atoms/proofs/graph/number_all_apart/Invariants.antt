use Rattle.check_atoms.specs.OfStack.{AreCheckAtoms}
use Rattle.check_atoms.proofs.graph.number_all_apart.Given as goal

abbrev pub invariant-loop-number : goal.invariant-loop-number
invariant-loop-number l = AreCheckAtoms l.stack l.marks l.atoms.atoms
