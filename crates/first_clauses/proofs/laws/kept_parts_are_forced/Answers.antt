use Rattle.first_clauses.proofs.Forcing.{kept_parts_forced}
use Rattle.first_clauses.proofs.laws.kept_parts_are_forced.Goals as goal

pub returns : goal.returns
returns c = kept_parts_forced c.node_clauses_force.ensures c.node_clauses_are_renamed.ensures
