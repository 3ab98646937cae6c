use Rattle.clause_form.proofs.Forcing.{forces}
use Rattle.clause_form.proofs.forced_clauses.node_clauses_force.Goals as goal

pub returns : goal.returns
returns c = forces
