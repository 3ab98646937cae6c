use Rattle.std.proofs.Common.{sym, subst}
use Rattle.simplex.specs.Trail.{IsTrail}
use Rattle.simplex.proofs.TrailLemmas.{trail_grown}
use Rattle.simplex.proofs.trail.BoundTrail.add_variable.Goals as goal

pub invariant_of-self-2 : goal.invariant_of-self-2
invariant_of-self-2 c =
    subst (λ hs. IsTrail hs c.self.inside.marks.items) (sym c.in_ok-push.ensures.items) (trail_grown c.self.inside.standing.items c.self.inside.marks.items c.self.invariant)
