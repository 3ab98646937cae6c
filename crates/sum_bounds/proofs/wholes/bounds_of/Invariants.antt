use Rattle.tableau.specs.Table.{row_at}
use Rattle.sum_bounds.proofs.WholeRows.{AreBoundsTo}
use Rattle.sum_bounds.proofs.wholes.bounds_of.Given as goal

abbrev pub invariant-loop-entry : goal.invariant-loop-entry
invariant-loop-entry l = AreBoundsTo l.simplex.columns (row_at l.simplex.table.rows l.place).basic l.entry-items l.entry-index l.bounds.items
