use Rattle.order_clauses.proofs.bounds.put_bound.Given as goal

abbrev pub ghost-threshold_of : goal.ghost-threshold_of
ghost-threshold_of g a = g.trees
