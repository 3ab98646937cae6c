use Rattle.first_clauses.proofs.nodes.keep_compared.Given as goal

abbrev pub ghost-put_part : goal.ghost-put_part
ghost-put_part g a = g.trees
