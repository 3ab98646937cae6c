use Rattle.std.proofs.Common.{◌<◌, length, sym, subst, arith}
use Rattle.std.proofs.lemmas.List.Elements.{All-weaker}
use Rattle.closure_log.specs.Said.{AreSaidBy}
use Rattle.closure_log.proofs.Saying.{arguments_said}
use Rattle.closure_log.proofs.said.add_arguments.Goals as goal

pub returns : goal.returns
returns c = λ said.
    subst (AreSaidBy c.args.store.now.trees c.args.term c.args.value) (sym c.in_ok-add_node_steps.ensures)
    (arguments_said c.node_steps_are_justified.ensures c.args.store.now.trees c.args.term c.args.value c.node-node.result.head c.node-node.result.arguments.now c.args.steps.now.items c.node-node.ensures.tree
    (All-weaker (λ i. i < c.args.term) (λ i. i < length c.args.store.now.trees) (λ i below. omega arith) c.node-node.result.arguments.now c.node-node.ensures.earlier) said)
