use Rattle.tableau.specs.Table.{row_at}
use Rattle.sum_bounds.proofs.WholeRows.{lacks}
use Rattle.sum_bounds.proofs.wholes.lacks_wholes.Goals as goal

pub returns-in-Some : goal.returns-in-Some
returns-in-Some c = λ yes.
    lacks c.args.simplex.now.columns (row_at c.args.simplex.now.table.rows c.args.place) c.in-Some.differences (c.facts.ensures.table.nonzero c.args.place c.requires) c.in-Some.ensures (c.lacks_zero.ensures yes)
