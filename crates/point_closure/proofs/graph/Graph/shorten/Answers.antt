use Rattle.point_closure.proofs.GraphLemmas.{ArePoints-take, points_take}
use Rattle.point_closure.proofs.graph.Graph.shorten.Goals as goal

pub invariant_of-self : goal.invariant_of-self
invariant_of-self c = rw c.truncate.ensures (ArePoints-take c.args.count c.self.inside.rows c.self.invariant)

pub returns : goal.returns
returns c = rw (c.truncate.ensures, ← c.self.view_is) (points_take c.args.count c.self.inside.rows)
