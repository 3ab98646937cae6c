use Rattle.std.proofs.Common.{◌<◌, [], length, All, arith, sym, ap, subst}
use Rattle.point_closure.specs.declared.shape.Shape.TheVariants.{Leaf}
use Rattle.point_closure.specs.Closure.{Point}
use Rattle.point_closure.proofs.GraphLemmas.{length-points, arguments_row}
use Rattle.point_closure.proofs.graph.Graph.arguments.Goals as goal

pub numbers-requires : goal.numbers-requires
numbers-requires c = omega (arith, length-points c.self.inside.rows, ap length c.self.view_is)

pub returns-clause-value : goal.returns-clause-value
returns-clause-value c =
    let rows = c.self.inside.rows in
    let short : c.args.point < length rows = omega (arith, length-points rows, ap length c.self.view_is) in
    rw (← c.self.view_is) (sym (arguments_row rows c.args.point (record { shape = Leaf; arguments = [] }) c.numbers.result.now short c.numbers.ensures))

pub returns-clause-earlier : goal.returns-clause-earlier
returns-clause-earlier c =
    let rows = c.self.inside.rows in
    let short : c.args.point < length rows = omega (arith, length-points rows, ap length c.self.view_is) in
    let d : Point = record { shape = Leaf; arguments = [] } in
    subst (All (λ i. i < c.args.point)) (arguments_row rows c.args.point d c.numbers.result.now short c.numbers.ensures) (c.self.invariant c.args.point d (omega (arith, length-points rows)))
