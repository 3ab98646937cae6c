use Rattle.order_clauses.proofs.Stacked.{part_atoms}
use Rattle.order_clauses.proofs.laws.part_atoms_are_of_stack.Goals as goal

pub returns : goal.returns
returns c = part_atoms c.orders_are_comparisons.ensures c.rows_are_atoms.ensures
