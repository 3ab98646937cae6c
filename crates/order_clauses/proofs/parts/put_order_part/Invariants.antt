use Rattle.order_clauses.proofs.parts.put_order_part.Given as goal

abbrev pub ghost-put_bounds : goal.ghost-put_bounds
ghost-put_bounds g a = g.trees
