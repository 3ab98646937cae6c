use Rattle.order_clauses.proofs.Deciding.{choice_part_decided}
use Rattle.order_clauses.proofs.laws.choice_part_is_decided.Goals as goal

pub returns : goal.returns
returns c = choice_part_decided c.equality_is_decided.ensures
