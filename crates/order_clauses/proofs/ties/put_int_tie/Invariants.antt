use Rattle.order_clauses.proofs.ties.put_int_tie.Given as goal

abbrev pub ghost-put_bound : goal.ghost-put_bound
ghost-put_bound g a = g.trees
