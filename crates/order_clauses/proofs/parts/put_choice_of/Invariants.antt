use Rattle.order_clauses.proofs.parts.put_choice_of.Given as goal

abbrev pub ghost-put_choice_part : goal.ghost-put_choice_part
ghost-put_choice_part g a = g.trees
