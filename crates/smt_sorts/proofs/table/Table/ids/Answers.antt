use Rattle.smt_sorts.proofs.TableLemmas.{IsTable-leveled, HasGained-none}
use Rattle.smt_sorts.proofs.table.Table.ids.Goals as goal

pub returns-clause-table : goal.returns-clause-table
returns-clause-table c = rw (← c.self.view_is) (IsTable-leveled c.self.inside.count c.self.inside.given c.self.inside.base c.self.inside.entries c.self.invariant.0)

pub returns-clause-gained : goal.returns-clause-gained
returns-clause-gained c = HasGained-none _ (returns-clause-table c)
