use Rattle.std.proofs.Common.{rules, ◌≡◌, ℕ, ◌<◌, ◌≤◌, length, List, subst}
use Rattle.smt_meaning.specs.declared.terms.Operator.TheVariants.{Xor}
use Rattle.smt_meaning.specs.declared.terms.Head.TheVariants.{Theory}
use Rattle.smt_meaning.specs.Term.{Tree, tree_at}
use Rattle.term_store.specs.Terms.{tree_with, AreDifferent}
use Rattle.closure_log.proofs.Wide.{its_head, its_arguments}
use Rattle.closure_log.proofs.clause.wide_arguments.Goals as goal
use Rattle.closure_log.proofs.clause.wide_arguments.Goals.{else-eq-via-then-eq+else-node-ge-FEWEST, else-eq-via-else-eq}

pub returns-then-node-ge-FEWEST-clause-one : goal.returns-then-node-ge-FEWEST-clause-one
returns-then-node-ge-FEWEST-clause-one c = λ js x.
    let node = c.node-node.result in
    let ts = c.args.stack.now.trees in
    let different : AreDifferent ts = subst AreDifferent c.terms-terms.ensures.trees c.len.ensures.different in
    let place : c.args.place < length ts = search rules in
    let tree : tree_at ts c.args.place ≡ tree_with ts node.head node.arguments.now =
    subst (λ (us : List Tree). tree_at us c.args.place ≡ tree_with us node.head node.arguments.now) c.terms-terms.ensures.trees c.node-node.ensures.tree in
    its_arguments ts c.args.place node.head node.arguments.now different place tree c.node-node.ensures.earlier js x

pub returns-clause-none : goal.returns-clause-none
returns-clause-none c = λ js x.
    let node = c.node-node.result in
    let ts = c.args.stack.now.trees in
    let different : AreDifferent ts = subst AreDifferent c.terms-terms.ensures.trees c.len.ensures.different in
    let place : c.args.place < length ts = search rules in
    let tree : tree_at ts c.args.place ≡ tree_with ts node.head node.arguments.now =
    subst (λ (us : List Tree). tree_at us c.args.place ≡ tree_with us node.head node.arguments.now) c.terms-terms.ensures.trees c.node-node.ensures.tree in
    let head : node.head ≡ Theory Xor = its_head ts c.args.place node.head node.arguments.now different place tree c.node-node.ensures.earlier js x in
    let wide : 4 ≤ length node.arguments.now = subst (λ (is : List ℕ). 4 ≤ length is) (its_arguments ts c.args.place node.head node.arguments.now different place tree c.node-node.ensures.earlier js x) x.wide in
    elim c.else-eq.branch [
      | else-eq-via-then-eq+else-node-ge-FEWEST w ↦ search rules
      | else-eq-via-else-eq w ↦ search rules
    ]
