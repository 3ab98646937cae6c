use Rattle.clause_form.proofs.ApartClauses.{node_apart}
use Rattle.clause_form.proofs.node_clauses_are_apart.Goals as goal

pub returns : goal.returns
returns c = node_apart
