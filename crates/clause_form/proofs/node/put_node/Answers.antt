use Rattle.clause_form.proofs.Putting.{node_ok}
use Rattle.clause_form.proofs.node.put_node.Goals as goal

pub returns : goal.returns
returns c =
    node_ok c.put_wide.result c.args.operator c.args.number c.args.arguments.now c.args.clauses.now c.put_narrow.new.clauses c.put_wide.new.clauses c.in_ok-put_narrow.ensures c.put_wide.ensures
