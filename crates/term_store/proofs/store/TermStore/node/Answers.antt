use Rattle.std.proofs.Common.{◌<◌, length, All, arith, ap, ◌∙◌, subst}
use Rattle.smt_meaning.specs.declared.nodes.Node.{Node}
use Rattle.smt_meaning.specs.Nodes.{trees_of}
use Rattle.term_store.specs.Terms.{Terms, tree_with}
use Rattle.term_store.specs.Nodes.{plain, nodes_of}
use Rattle.term_store.proofs.NodeLemmas.{length-trees_of, tree_at-nodes}
use Rattle.term_store.proofs.StoreLemmas.{length-nodes}
use Rattle.term_store.proofs.store.TermStore.node.Goals as goal

pub node_at-requires : goal.node_at-requires
node_at-requires c = omega (arith, length-trees_of (nodes_of c.self.inside.rows), length-nodes c.self.inside.rows, ap (λ (s : Terms). length s.trees) c.self.view_is)

pub returns-clause-tree : goal.returns-clause-tree
returns-clause-tree c =
    let ns = nodes_of c.self.inside.rows in
    let n : Node = plain c.node_at.result.head c.node_at.result.arguments.now in
    let tree = tree_at-nodes ns c.args.id n c.self.invariant.earlier (omega (arith, length-trees_of ns, ap (λ (s : Terms). length s.trees) c.self.view_is)) in
    rw (← c.self.view_is) (tree ∙ ap (λ (m : Node). tree_with (trees_of ns) m.head m.arguments) (c.node_at.ensures n))

pub returns-clause-earlier : goal.returns-clause-earlier
returns-clause-earlier c =
    let ns = nodes_of c.self.inside.rows in
    let n : Node = plain c.node_at.result.head c.node_at.result.arguments.now in
    subst (λ (m : Node). All (λ i. i < c.args.id) m.arguments) (c.node_at.ensures n)
    (c.self.invariant.earlier c.args.id n (omega (arith, length-trees_of ns, ap (λ (s : Terms). length s.trees) c.self.view_is)))
