use Rattle.first_clauses.proofs.Holding.{parts_decided}
use Rattle.first_clauses.proofs.laws.first_clauses_decide_parts.Goals as goal

pub returns : goal.returns
returns c = parts_decided c.node_clauses_decide.ensures
