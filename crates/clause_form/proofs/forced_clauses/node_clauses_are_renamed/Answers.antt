use Rattle.clause_form.proofs.Renaming.{node_renamed}
use Rattle.clause_form.proofs.forced_clauses.node_clauses_are_renamed.Goals as goal

pub returns : goal.returns
returns c = node_renamed
