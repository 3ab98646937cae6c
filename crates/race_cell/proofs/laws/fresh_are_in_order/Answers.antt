use Rattle.race_cell.proofs.Winners.{fresh_in_order}
use Rattle.race_cell.proofs.laws.fresh_are_in_order.Goals as goal

pub returns : goal.returns
returns c = fresh_in_order
