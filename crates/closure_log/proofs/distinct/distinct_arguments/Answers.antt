use Rattle.std.proofs.Common.{rules, ◌≡◌, ◌<◌, length, All, subst, arith}
use Rattle.std.specs.Prelude.{List, ℕ}
use Rattle.std.proofs.lemmas.List.Elements.{All-weaker}
use Rattle.smt_meaning.specs.Term.{Tree, tree_at}
use Rattle.term_store.specs.Terms.{tree_with, AreDifferent}
use Rattle.closure_log.proofs.Distincts.{its_arguments}
use Rattle.closure_log.proofs.distinct.distinct_arguments.Goals as goal

below : (n m : ℕ) → n < m → (is : List ℕ) → All (λ i. i < n) is → All (λ i. i < m) is
below n m less is all = All-weaker (λ i. i < n) (λ i. i < m) (λ i small. omega arith) is all

pub returns-then-eq-clause-one : goal.returns-then-eq-clause-one
returns-then-eq-clause-one c = λ js d.
    let node = c.node-node.result in
    let ts = c.args.stack.now.trees in
    let different : AreDifferent ts = subst AreDifferent c.terms-terms.ensures.trees c.len.ensures.different in
    let place : c.args.place < length ts = search rules in
    let tree : tree_at ts c.args.place ≡ tree_with ts node.head node.arguments.now =
    subst (λ (us : List Tree). tree_at us c.args.place ≡ tree_with us node.head node.arguments.now) c.terms-terms.ensures.trees c.node-node.ensures.tree in
    its_arguments ts c.args.place node.head node.arguments.now js different tree (below c.args.place (length ts) place node.arguments.now c.node-node.ensures.earlier) d
