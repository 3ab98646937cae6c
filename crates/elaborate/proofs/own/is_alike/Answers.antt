use Rattle.elaborate.proofs.Owned.{alike_node}
use Rattle.elaborate.proofs.own.is_alike.Goals as goal

pub returns : goal.returns
returns c = λ test alike.
    alike_node c.args.id c.args.first.now.trees c.args.second.now.trees c.node.result.head c.node-2.result.head c.node.result.arguments.now c.node-2.result.arguments.now (c.is_same.ensures.head test) (c.is_same.ensures.arguments test) c.node.ensures.tree c.node-2.ensures.tree c.node.ensures.earlier alike
