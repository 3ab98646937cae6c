use Rattle.std.proofs.Common.{◌<◌, length, sym, subst, arith}
use Rattle.std.proofs.lemmas.List.Elements.{All-weaker}
use Rattle.closure_log.specs.Said.{AreSaidBy}
use Rattle.closure_log.proofs.Saying.{choice_said}
use Rattle.closure_log.proofs.said.add_choice.Goals as goal

pub returns : goal.returns
returns c = λ said.
    let within : c.args.place < length c.args.store.now.trees = omega arith in
    subst (AreSaidBy c.args.store.now.trees c.args.condition c.args.value) (sym c.in_ok-add_choice_steps.ensures)
    (choice_said c.choice_steps_are_justified.ensures c.args.store.now.trees c.args.condition c.args.place c.args.value c.node-node.result.head c.node-node.result.arguments.now c.args.steps.now.items within
    c.node-node.ensures.tree (All-weaker (λ i. i < c.args.place) (λ i. i < length c.args.store.now.trees) (λ i below. omega arith) c.node-node.result.arguments.now c.node-node.ensures.earlier) said)
