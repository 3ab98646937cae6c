use Rattle.order_clauses.proofs.ties.put_tie.Given as goal

abbrev pub ghost-put_int_tie : goal.ghost-put_int_tie
ghost-put_int_tie g a = g.trees
