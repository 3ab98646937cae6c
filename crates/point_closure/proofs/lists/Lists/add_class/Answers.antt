use Rattle.point_closure.proofs.ListsLemmas.{lists_class}
use Rattle.point_closure.proofs.lists.Lists.add_class.Goals as goal

pub invariant_of-self-2 : goal.invariant_of-self-2
invariant_of-self-2 c = rw c.in_ok-push.ensures.items (lists_class c.self.inside.lists.items c.self.inside.changes.items c.new.result c.self.invariant c.new.ensures.items)
