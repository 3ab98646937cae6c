use Rattle.order_clauses.proofs.parts.put.Given as goal

abbrev pub ghost-put_order_part : goal.ghost-put_order_part
ghost-put_order_part g a = g.trees

abbrev pub ghost-put_equality_of : goal.ghost-put_equality_of
ghost-put_equality_of g a = g.trees

abbrev pub ghost-put_choice_of : goal.ghost-put_choice_of
ghost-put_choice_of g a = g.trees

abbrev pub ghost-put_division : goal.ghost-put_division
ghost-put_division g a = g.trees
