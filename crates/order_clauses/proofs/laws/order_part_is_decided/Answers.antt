use Rattle.order_clauses.proofs.Deciding.{order_part_decided}
use Rattle.order_clauses.proofs.laws.order_part_is_decided.Goals as goal

pub returns : goal.returns
returns c = order_part_decided c.order_is_decided.ensures
