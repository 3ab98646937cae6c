use Rattle.std.proofs.Common.{length, arith, ap, subst}
use Rattle.smt_meaning.specs.Nodes.{trees_of}
use Rattle.term_store.specs.Terms.{Terms, AreComplete}
use Rattle.term_store.specs.Nodes.{nodes_of}
use Rattle.term_store.proofs.NodeLemmas.{length-trees_of}
use Rattle.term_store.proofs.PartLemmas.{nodes_complete}
use Rattle.term_store.proofs.StoreLemmas.{length-nodes}
use Rattle.term_store.proofs.store.TermStore.len.Goals as goal

pub returns-clause-value : goal.returns-clause-value
returns-clause-value c = omega (arith, length-trees_of (nodes_of c.self.inside.rows), length-nodes c.self.inside.rows, ap (λ (s : Terms). length s.trees) c.self.view_is)

pub returns-clause-within : goal.returns-clause-within
returns-clause-within c = rw (← c.self.view_is) (omega (arith, length-trees_of (nodes_of c.self.inside.rows), length-nodes c.self.inside.rows))

pub returns-clause-parts : goal.returns-clause-parts
returns-clause-parts c =
    let whole : AreComplete (trees_of (nodes_of c.self.inside.rows)) = nodes_complete (nodes_of c.self.inside.rows) c.self.invariant.earlier in
    subst (λ (s : Terms). AreComplete s.trees) c.self.view_is whole
