use Rattle.std.proofs.Common.{subst}
use Rattle.tableau.specs.Failing.{IsRange}
use Rattle.tableau.proofs.RowLemmas.{if_err_then}
use Rattle.tableau.proofs.sum.add_sum.Goals as goal

pub returns-clause-range : goal.returns-clause-range
returns-clause-range c = if_err_then c.append_row.result (λ e is r. absurd (subst IsRange is r)) c.append_row.ensures.memory
