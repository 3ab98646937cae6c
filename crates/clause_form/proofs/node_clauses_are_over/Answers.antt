use Rattle.clause_form.proofs.Over.{over_contained}
use Rattle.clause_form.proofs.node_clauses_are_over.Goals as goal

pub returns : goal.returns
returns c = over_contained
