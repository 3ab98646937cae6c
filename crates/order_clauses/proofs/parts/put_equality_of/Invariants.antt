use Rattle.order_clauses.proofs.parts.put_equality_of.Given as goal

abbrev pub ghost-put_equality_part : goal.ghost-put_equality_part
ghost-put_equality_part g a = g.trees
