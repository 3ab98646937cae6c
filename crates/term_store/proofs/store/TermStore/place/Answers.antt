use Rattle.std.proofs.Common.{◌<◌, length, All, sym, subst}
use Rattle.term_store.specs.Terms.{Terms}
use Rattle.term_store.specs.Nodes.{nodes_of}
use Rattle.smt_meaning.specs.declared.nodes.Node.{Node}
use Rattle.term_store.proofs.NodeLemmas.{IsPlace-nodes, IsNew-nodes}
use Rattle.term_store.proofs.StoreLemmas.{some_with, none_with}
use Rattle.term_store.proofs.store.TermStore.place.Goals as goal

pub returns-clause-some : goal.returns-clause-some
returns-clause-some c =
    let n : Node = record { head = c.args.head; arguments = c.args.arguments.now } in
    rw (← c.self.view_is)
    (some_with c.find.result _ _ (λ i has. IsPlace-nodes (nodes_of c.self.inside.rows) i n c.self.invariant.earlier has) c.find.ensures.some)

pub returns-clause-none : goal.returns-clause-none
returns-clause-none c =
    let n : Node = record { head = c.args.head; arguments = c.args.arguments.now } in
    let below = subst (λ (s : Terms). All (λ i. i < length s.trees) c.args.arguments.now) (sym c.self.view_is) c.requires.below in
    rw (← c.self.view_is)
    (none_with c.find.result _ _ (λ no'. IsNew-nodes (nodes_of c.self.inside.rows) n c.self.invariant.earlier c.self.invariant.different below no') c.find.ensures.none)
