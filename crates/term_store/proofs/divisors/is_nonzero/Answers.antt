use Rattle.std.proofs.Common.{◌∙◌, ap}
use Rattle.smt_meaning.specs.declared.terms.Head.{Head}
use Rattle.smt_meaning.specs.Term.{node}
use Rattle.smt_meaning.specs.Nodes.{pick}
use Rattle.term_store.proofs.DivisorLemmas.{nonzero_at}
use Rattle.term_store.proofs.divisors.is_nonzero.Goals as goal

pub returns-then-number-ne0 : goal.returns-then-number-ne0
returns-then-number-ne0 c = c.is_zero.ensures ∙ nonzero_at c.args.store.now.trees _ c.in-Numeral.number c.node-node.result.arguments.now (c.node-node.ensures.tree ∙ ap (λ (h : Head). node h (pick c.args.store.now.trees c.node-node.result.arguments.now)) c.in-Numeral.is) (λ e. c.if-number-ne0.true (rw e))
