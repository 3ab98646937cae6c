use Rattle.term_store.proofs.SeekLemmas.{Seeks}
use Rattle.term_store.proofs.lookup.find.Given as goal

abbrev pub invariant-loop-link : goal.invariant-loop-link
invariant-loop-link g l = Seeks g.T.Named.name l.items l.index l.name l.link

abbrev pub decreases-loop-link : goal.decreases-loop-link
decreases-loop-link g l = l.link
