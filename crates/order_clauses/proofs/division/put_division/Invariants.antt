use Rattle.order_clauses.proofs.division.put_division.Given as goal

abbrev pub ghost-put_rows : goal.ghost-put_rows
ghost-put_rows g a = g.trees
