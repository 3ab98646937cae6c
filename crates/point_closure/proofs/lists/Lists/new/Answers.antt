use Rattle.point_closure.proofs.ListsLemmas.{no_lists}
use Rattle.point_closure.proofs.lists.Lists.new.Goals as goal

pub invariant_of-result : goal.invariant_of-result
invariant_of-result c = rw (c.new.ensures.items, c.new-2.ensures.items) no_lists
