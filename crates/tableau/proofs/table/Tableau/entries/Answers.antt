use Rattle.std.proofs.Common.{ap}
use Rattle.tableau.specs.Table.{Table}
use Rattle.tableau.proofs.TableLemmas.{separate_rows}
use Rattle.tableau.proofs.table.Tableau.entries.Goals as goal

pub returns-clause-separate : goal.returns-clause-separate
returns-clause-separate c =
    separate_rows c.self.inside.rows.items c.args.self.now.rows c.self.inside.count c.args.place c.index.result.now c.deref.result.now c.self.invariant.0 (ap (λ (t : Table). t.rows) c.self.view_is) c.requires
    c.index.ensures c.deref.ensures.value
