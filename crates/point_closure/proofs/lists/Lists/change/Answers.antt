use Rattle.std.proofs.Common.{rules, sym, subst}
use Rattle.term_store.proofs.StoreLemmas.{at_ok}
use Rattle.point_closure.specs.Lists.{Listed, IsChangeOf}
use Rattle.point_closure.proofs.ListsLemmas.{lists_change}
use Rattle.point_closure.proofs.lists.Lists.change.Goals as goal

pub invariant_of-self-else-is_err : goal.invariant_of-self-else-is_err
invariant_of-self-else-is_err c =
    rw c.in_ok-push.ensures.items
    (lists_change c.self.inside.lists.items c.apply.new.lists.items c.self.inside.changes.items c.args.change c.self.invariant
    (subst (λ (s : Listed). IsChangeOf s.count c.args.change) (sym c.self.view_is) c.requires)
    c.apply.ensures.count (at_ok c.apply.result _ (search rules) c.apply.ensures.ok))
