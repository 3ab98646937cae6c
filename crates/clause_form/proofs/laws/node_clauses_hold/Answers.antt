use Rattle.clause_form.proofs.NodeLaws.{hold}
use Rattle.clause_form.proofs.laws.node_clauses_hold.Goals as goal

pub returns : goal.returns
returns c = hold c.node_clauses_are_true.ensures c.wide_clauses_are_true.ensures c.node_clauses_are_over.ensures c.wide_clauses_are_over.ensures c.node_clauses_are_apart.ensures c.wide_clauses_are_apart.ensures
