use Rattle.std.proofs.Common.{sym}
use Rattle.smt_sorts.proofs.TableLemmas.{length-levels_of}
use Rattle.smt_sorts.proofs.table.Table.levels.Goals as goal

pub returns : goal.returns
returns c = rw (← c.self.view_is) (sym (length-levels_of c.self.inside.count c.self.inside.entries))
