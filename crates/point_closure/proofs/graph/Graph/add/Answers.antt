use Rattle.std.proofs.Common.{◌<◌, List, length, All, sym, subst}
use Rattle.point_closure.specs.Closure.{Point}
use Rattle.point_closure.proofs.GraphLemmas.{ArePoints-push, points_push}
use Rattle.point_closure.proofs.graph.Graph.add.Goals as goal

pub invariant_of-self-2 : goal.invariant_of-self-2
invariant_of-self-2 c =
    let below = subst (λ (ps : List Point). All (λ i. i < length ps) c.args.arguments.now) (sym c.self.view_is) c.requires in
    rw c.in_ok-push.ensures.ok (ArePoints-push c.self.inside.rows c.args.shape c.args.arguments.now c.self.invariant below)

pub returns-clause-ok : goal.returns-clause-ok
returns-clause-ok c = rw (c.in_ok-push.ensures.ok, ← c.self.view_is) (points_push c.self.inside.rows c.args.shape c.args.arguments.now)
