use Rattle.order_clauses.proofs.parts.put_equality_part.Given as goal

abbrev pub ghost-put_ties : goal.ghost-put_ties
ghost-put_ties g a = g.trees
