use Rattle.scope_stack.proofs.LawLemmas.{reached_lawful}
use Rattle.scope_stack.proofs.lawful.reached_stacks_are_lawful.Goals as goal

pub returns : goal.returns
returns c =
    reached_lawful c.no_id_twice.ensures c.assertions_are_truths.ensures c.trees_are_in_order.ensures c.parts_are_among_the_trees.ensures c.numerals_are_in_range.ensures c.trees_are_linear.ensures
