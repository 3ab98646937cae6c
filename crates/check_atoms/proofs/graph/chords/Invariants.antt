use Rattle.check_atoms.specs.OfStack.{AreCheckAtoms}
use Rattle.check_atoms.proofs.graph.chords.Given as goal

abbrev pub invariant-loop-turn : goal.invariant-loop-turn
invariant-loop-turn l = AreCheckAtoms l.stack l.marks l.atoms.atoms
