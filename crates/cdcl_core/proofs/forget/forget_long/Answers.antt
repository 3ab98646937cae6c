use Rattle.std.proofs.Common.{Bool, List, subst, sym}
use Rattle.clause_store.specs.Assigned.{Assigned}
use Rattle.cdcl_core.specs.Forgetting.{AreMarked}
use Rattle.cdcl_core.proofs.forget.forget_long.Goals as goal

pub forget_one-requires-clause-marked : goal.forget_one-requires-clause-marked
forget_one-requires-clause-marked c =
    subst (λ (t : Assigned). AreMarked t.steps c.deref.result.now) (sym c.loop-id.invariant.trail)
    (subst (λ (xs : List Bool). AreMarked c.args.store.now.trail.steps xs) (sym c.deref.ensures.value) c.in-Ok.ensures)
