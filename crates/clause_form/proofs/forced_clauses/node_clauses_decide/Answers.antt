use Rattle.clause_form.proofs.Deciding.{decide}
use Rattle.clause_form.proofs.forced_clauses.node_clauses_decide.Goals as goal

pub returns : goal.returns
returns c = decide
