use Rattle.simplex.proofs.TrailLemmas.{undone_as}
use Rattle.simplex.proofs.trail.BoundTrail.undo.Goals as goal

pub invariant_of-self-2 : goal.invariant_of-self-2
invariant_of-self-2 c =
    undone_as c.self.inside.standing.items c.pop.new.self.items c.self.inside.marks.items c.in_ok-mark.mark c.index.result.now c.replaced.result c.self.invariant c.in_ok-mark.ensures.items c.index.ensures c.replaced.ensures
