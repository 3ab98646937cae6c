use Rattle.std.proofs.Common.{sym, ◌∙◌}
use Rattle.term_store.proofs.DivisorLemmas.{quotient_at}
use Rattle.term_store.proofs.divisors.is_quotient_of.Goals as goal

pub returns : goal.returns
returns c =
    c.is_quotient_node.ensures
    ∙ sym (quotient_at c.args.store.now.trees c.args.term c.node-node.result.head c.node-node.result.arguments.now c.args.number c.args.divisor c.len.ensures.different c.requires.term c.node-node.ensures.earlier c.requires.number c.requires.divisor c.node-node.ensures.tree)
