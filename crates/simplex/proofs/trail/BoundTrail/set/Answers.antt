use Rattle.std.proofs.Common.{ap, arith}
use Rattle.simplex.specs.Trail.{Trail}
use Rattle.simplex.proofs.TrailLemmas.{set_as}
use Rattle.simplex.proofs.trail.BoundTrail.set.Goals as goal

pub invariant_of-self-2 : goal.invariant_of-self-2
invariant_of-self-2 c =
    set_as c.self.inside.standing.items c.self.inside.marks.items c.push.new.self.items c.args.set c.index-standing.result.now c.replaced.result c.side_of-before.result c.tighten.result c.self.invariant
    (omega (arith, c.requires, ap (λ (t : Trail). t.count) c.self.view_is)) c.index-standing.ensures c.side_of-before.ensures c.tighten.ensures c.replaced.ensures c.in_ok-push.ensures.items
