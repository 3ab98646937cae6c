use Rattle.order_clauses.proofs.division.put_row.Given as goal

abbrev pub ghost-put_limit : goal.ghost-put_limit
ghost-put_limit g a = g.trees

abbrev pub ghost-put_other : goal.ghost-put_other
ghost-put_other g a = g.trees
