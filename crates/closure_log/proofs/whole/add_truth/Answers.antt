use Rattle.std.proofs.Common.{ℕ, ◌<◌, length, All, sym, subst, arith}
use Rattle.std.proofs.lemmas.List.Elements.{All-weaker}
use Rattle.closure_log.specs.Said.{AreSaidBy}
use Rattle.closure_log.proofs.Saying.{own_said, arguments_said}
use Rattle.closure_log.proofs.WholeSteps.{truth_says}
use Rattle.closure_log.proofs.whole.add_truth.Goals as goal

below : (n m : ℕ) → n < m → (i : ℕ) → i < n → i < m
below n m less i small = omega arith

pub returns-clause-said : goal.returns-clause-said
returns-clause-said c = λ said.
    let ts = c.args.store.now.trees in
    let node = c.node-node.result in
    let within : All (λ i. i < length ts) node.arguments.now = All-weaker (λ i. i < c.args.term) (λ i. i < length ts) (below c.args.term (length ts) c.requires.within) node.arguments.now c.node-node.ensures.earlier in
    subst (AreSaidBy ts c.args.term c.args.value) (sym c.in_ok-add_node_steps.ensures)
    (arguments_said c.node_steps_are_justified.ensures ts c.args.term c.args.value node.head node.arguments.now c.add_truth_step.new.steps.items c.node-node.ensures.tree within
    (subst (AreSaidBy ts c.args.term c.args.value) (sym c.in_ok-add_truth_step.ensures) (own_said c.truth_is_justified.ensures ts c.args.term c.args.value c.args.steps.now.items c.requires.within said)))

pub returns-clause-whole : goal.returns-clause-whole
returns-clause-whole c =
    let ts = c.args.store.now.trees in
    let node = c.node-node.result in
    let within : All (λ i. i < length ts) node.arguments.now = All-weaker (λ i. i < c.args.term) (λ i. i < length ts) (below c.args.term (length ts) c.requires.within) node.arguments.now c.node-node.ensures.earlier in
    truth_says ts c.args.term c.args.value node.head node.arguments.now c.args.steps.now.items c.add_truth_step.new.steps.items c.add_node_steps.new.steps.items c.len-different.ensures.different c.node-node.ensures.tree within
    c.in_ok-add_truth_step.ensures c.in_ok-add_node_steps.ensures
