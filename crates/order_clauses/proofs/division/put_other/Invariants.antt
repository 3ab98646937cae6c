use Rattle.order_clauses.proofs.division.put_other.Given as goal

abbrev pub ghost-put_limit : goal.ghost-put_limit
ghost-put_limit g a = g.trees
