use Rattle.first_clauses.proofs.nodes.keep_node.Given as goal

abbrev pub ghost-keep_compared : goal.ghost-keep_compared
ghost-keep_compared g a = a.stack.now.trees
