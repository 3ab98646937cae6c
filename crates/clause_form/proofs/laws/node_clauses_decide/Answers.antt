use Rattle.clause_form.proofs.NodeLaws.{decide}
use Rattle.clause_form.proofs.laws.node_clauses_decide.Goals as goal

pub returns : goal.returns
returns c = decide c.node_clauses_decide.ensures
