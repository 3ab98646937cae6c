use Rattle.std.proofs.Common.{ap, sym, ◌∙◌}
use Rattle.fraction128.specs.Number.{is_zero}
use Rattle.tableau.specs.Table.{row_at}
use Rattle.tableau.proofs.Shape.{has_entry}
use Rattle.unit_tests.proofs.pivots.has_entry.Goals as goal

pub returns-in-Some-clause-entry : goal.returns-in-Some-clause-entry
returns-in-Some-clause-entry c = λ e. has_entry c.args.variable (row_at c.args.tableau.now.rows c.args.place).entries (ap is_zero (sym c.in-Some.ensures.some) ∙ c.in-Some.ensures.nonzero)
