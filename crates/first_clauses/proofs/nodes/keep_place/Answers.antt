use Rattle.std.proofs.Common.{rules, ◌≡◌, List, subst, arith}
use Rattle.smt_meaning.specs.Term.{Tree, tree_at}
use Rattle.term_store.specs.Terms.{tree_with}
use Rattle.smt_meaning.specs.declared.terms.Head.TheVariants.{Theory}
use Rattle.check_atoms.specs.Parts.{IsMarked}
use Rattle.first_clauses.specs.CheckClausesFirst.{HasPart, HasPartAt}
use Rattle.first_clauses.proofs.CheckClausesKeeping.{on_ok, node_here, part_there}
use Rattle.first_clauses.specs.Counted.{pairs_of_tree, ComparesPairs, TakesSteps}
use Rattle.first_clauses.proofs.Counting.{node_pairs, marked_so, part_takes}
use Rattle.first_clauses.proofs.nodes.keep_place.Goals as goal

pub returns-in-Theory-clause-has : goal.returns-in-Theory-clause-has
returns-in-Theory-clause-has g c =
    let s = c.args.stack.now in
    let sorts = c.args.sorts.now in
    let table = c.args.atoms.now.atoms in
    let is = c.node-node.result.arguments.now in
    let clauses = c.keep_node.new.store.clauses in
    on_ok c.keep_node.result (HasPart s sorts table clauses c.args.place c.in-Theory.operator is) (HasPartAt s c.args.marks.now sorts table clauses c.args.place) c.keep_node.ensures.has
    (part_there s c.args.marks.now sorts table clauses c.args.place c.in-Theory.operator is c.laws.ensures
    (node_here s.trees c.args.place c.node-node.result.head (Theory c.in-Theory.operator) is c.in-Theory.is c.requires.within
    (subst (λ (ts : List Tree). tree_at ts c.args.place ≡ tree_with ts c.node-node.result.head is) c.terms.ensures.trees c.node-node.ensures.tree) c.node-node.ensures.earlier))

pub returns-in-Theory-clause-few : goal.returns-in-Theory-clause-few
returns-in-Theory-clause-few g c =
    let trees = c.args.stack.now.trees in
    let marks = c.args.marks.now in
    let p = c.args.place in
    let is = c.node-node.result.arguments.now in
    let marked : IsMarked marks p = search rules in
    let tree = subst (λ (ts : List Tree). tree_at ts p ≡ tree_with ts c.node-node.result.head is) c.terms.ensures.trees c.node-node.ensures.tree in
    let pairs = node_pairs trees p c.node-node.result.head c.in-Theory.operator is c.in-Theory.is tree in
    let one = marked_so marks p 1 marked in
    let many = marked_so marks p (pairs_of_tree (tree_at trees p)) marked in
    let step = c.tick.ensures in
    let few = c.keep_node.ensures.few in
    omega (arith, pairs, one, many, step, few)

pub returns-in-Theory-clause-counted : goal.returns-in-Theory-clause-counted
returns-in-Theory-clause-counted g c =
    let s = c.args.stack.now in
    let marks = c.args.marks.now in
    let sorts = c.args.sorts.now in
    let p = c.args.place in
    let is = c.node-node.result.arguments.now in
    let head = Theory c.in-Theory.operator in
    let marked : IsMarked marks p = search rules in
    let at =
    node_here s.trees p c.node-node.result.head head is c.in-Theory.is c.requires.within
    (subst (λ (ts : List Tree). tree_at ts p ≡ tree_with ts c.node-node.result.head is) c.terms.ensures.trees c.node-node.ensures.tree) c.node-node.ensures.earlier in
    on_ok c.keep_node.result (ComparesPairs s sorts p head is c.tick.new.self c.keep_node.new.steps) (TakesSteps s marks sorts p c.args.steps.now c.keep_node.new.steps)
    c.keep_node.ensures.counted
    (λ compares. part_takes s marks sorts p head is c.args.steps.now c.keep_node.new.steps c.laws.ensures marked at
    (subst (λ n. ComparesPairs s sorts p head is n c.keep_node.new.steps) c.tick.ensures compares))
