use Rattle.std.proofs.Common.{◌<◌, [], length, arith, sym, ap}
use Rattle.point_closure.specs.declared.shape.Shape.TheVariants.{Leaf}
use Rattle.point_closure.proofs.GraphLemmas.{length-points, shape_row}
use Rattle.point_closure.proofs.graph.Graph.shape.Goals as goal

pub head-requires : goal.head-requires
head-requires c = omega (arith, length-points c.self.inside.rows, ap length c.self.view_is)

pub returns : goal.returns
returns c =
    let rows = c.self.inside.rows in
    let short : c.args.point < length rows = omega (arith, length-points rows, ap length c.self.view_is) in
    rw (← c.self.view_is) (sym (shape_row rows c.args.point (record { shape = Leaf; arguments = [] }) c.head.result short c.head.ensures))
