use Rattle.check_atoms.proofs.StackAtoms.{all_numbered}
use Rattle.check_atoms.proofs.laws.stack_atoms_are_numbered.Goals as goal

pub returns : goal.returns
returns c = all_numbered c.orders_are_comparisons.ensures c.rows_are_atoms.ensures
