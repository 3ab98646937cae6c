use Rattle.proof_terms.proofs.TermDivisions.{not_one}
use Rattle.proof_terms.proofs.terms_divisions.is_negation.Goals as goal

pub returns-then-node-ne1 : goal.returns-then-node-ne1
returns-then-node-ne1 c =
    let n = c.node-node.result in
    not_one c.args.store.now.trees _ n.head n.arguments.now c.node-node.ensures.tree c.if-node-ne1.true
