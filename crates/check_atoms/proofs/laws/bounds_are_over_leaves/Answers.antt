use Rattle.check_atoms.proofs.BoundLeaves.{bounds_over_leaves}
use Rattle.check_atoms.proofs.laws.bounds_are_over_leaves.Goals as goal

pub returns : goal.returns
returns c = bounds_over_leaves
