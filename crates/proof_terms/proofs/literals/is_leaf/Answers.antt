use Rattle.std.proofs.Common.{not, ap, sym, ◌∙◌}
use Rattle.smt_meaning.specs.declared.nodes.Node.{Node}
use Rattle.smt_meaning.specs.TreeShape.{is_constant_head}
use Rattle.proof_terms.proofs.LiteralsLeaves.{leaf_of_node}
use Rattle.proof_terms.proofs.literals.is_leaf.Goals as goal

pub returns : goal.returns
returns c =
    let t = c.args.terms.now in
    ap not c.is_constant_head.ensures ∙ ap (λ (n : Node). not (is_constant_head n.head)) (sym c.node.ensures.node) ∙ sym (leaf_of_node t.declared t.nodes t.trees c.len-count.ensures.terms c.args.place c.requires)
