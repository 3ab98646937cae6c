use Rattle.order_clauses.proofs.division.put_limit.Given as goal

abbrev pub ghost-threshold_of : goal.ghost-threshold_of
ghost-threshold_of g a = g.trees
