use Rattle.order_clauses.proofs.parts.put_part.Given as goal

abbrev pub ghost-put : goal.ghost-put
ghost-put g a = g.trees
