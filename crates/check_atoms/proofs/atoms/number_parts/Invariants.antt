use Rattle.std.proofs.Common.{◌≡◌}
use Rattle.check_atoms.specs.OfStack.{AreAtomsBelow}
use Rattle.check_atoms.proofs.atoms.number_parts.Given as goal

abbrev pub invariant-loop-id : goal.invariant-loop-id
invariant-loop-id l = (l.forms ≡ l.fn.forms) × AreAtomsBelow l.stack l.marks l.id l.atoms.atoms
