use Rattle.first_clauses.proofs.Agreeing.{agreed}
use Rattle.first_clauses.proofs.laws.first_clauses_agree.Goals as goal

pub returns : goal.returns
returns c = agreed c.first_clauses_say_standing.ensures c.first_clauses_decide_parts.ensures
