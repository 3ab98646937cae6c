use Rattle.worker.proofs.Ranges.{no_range}
use Rattle.worker.proofs.plain.nothing_leaves_range.Goals as goal

pub returns : goal.returns
returns c = no_range c.tables_interpret.ensures c.value_has_its_sort.ensures
