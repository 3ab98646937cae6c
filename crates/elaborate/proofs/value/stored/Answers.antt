use Rattle.std.proofs.Common.{◌<◌, length, All, sym, subst, ◌∙◌, refl}
use Rattle.elaborate.proofs.Stored.{ids_below, node_done}
use Rattle.elaborate.proofs.value.stored.Goals as goal

pub intern-requires : goal.intern-requires
intern-requires c = subst (All (λ i. i < length c.args.store.now.trees)) (sym (c.deref.ensures.value ∙ c.in_ok-ids.ensures)) (ids_below c.args.store.now.trees c.args.arguments.now c.requires)

pub returns-clause-ok : goal.returns-clause-ok
returns-clause-ok c =
    node_done c.args.head c.args.sort c.args.arguments.now c.args.store.now.trees c.intern.new.self.trees c.deref.result.now _ c.requires (c.deref.ensures.value ∙ c.in_ok-ids.ensures) c.in_ok-id.ensures.parts c.in_ok-id.ensures.place.0 c.in_ok-id.ensures.place.1
    refl c.is_constant.ensures c.is_linear-linear.ensures
