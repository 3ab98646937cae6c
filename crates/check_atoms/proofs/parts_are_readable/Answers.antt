use Rattle.check_atoms.proofs.Readable.{parts_readable}
use Rattle.check_atoms.proofs.parts_are_readable.Goals as goal

pub returns : goal.returns
returns c = parts_readable c.assertions_are_linear.ensures c.leaves_are_among_the_trees.ensures
