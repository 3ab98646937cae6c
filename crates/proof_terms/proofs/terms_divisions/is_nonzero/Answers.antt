use Rattle.proof_terms.proofs.TermDivisions.{some_arguments}
use Rattle.proof_terms.proofs.terms_divisions.is_nonzero.Goals as goal

pub returns-then-node-gt0 : goal.returns-then-node-gt0
returns-then-node-gt0 c =
    let n = c.node-node.result in
    some_arguments c.args.store.now.trees _ n.head n.arguments.now c.node-node.ensures.tree c.if-node-gt0.true
