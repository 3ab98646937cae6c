use Rattle.order_clauses.proofs.parts.put_choice_part.Given as goal

abbrev pub ghost-put_tie : goal.ghost-put_tie
ghost-put_tie g a = g.trees
