use Rattle.term_store.specs.Nodes.{plain, nodes_of}
use Rattle.term_store.proofs.StoreLemmas.{Seeks}
use Rattle.term_store.proofs.store.find.Given as goal

abbrev pub invariant-loop-link : goal.invariant-loop-link
invariant-loop-link l = Seeks (nodes_of l.rows) l.index l.hash (plain l.node.head l.node.arguments.now) l.link

abbrev pub decreases-loop-link : goal.decreases-loop-link
decreases-loop-link l = l.link
