use Rattle.order_clauses.proofs.Deciding.{equality_part_decided}
use Rattle.order_clauses.proofs.laws.equality_part_is_decided.Goals as goal

pub returns : goal.returns
returns c = equality_part_decided c.equality_is_decided.ensures
