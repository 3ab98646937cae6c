use Rattle.check_atoms.proofs.FirstAtoms.{first_atoms}
use Rattle.check_atoms.proofs.laws.atoms_are_first.Goals as goal

pub returns : goal.returns
returns c = first_atoms c.orders_are_comparisons.ensures c.rows_are_atoms.ensures c.flat_says_the_same.ensures
