use Rattle.smt_sorts.proofs.FindLemmas.{Seeks}
use Rattle.smt_sorts.proofs.entries.find.Given as goal

abbrev pub invariant-loop-link : goal.invariant-loop-link
invariant-loop-link l = Seeks l.declarations l.index l.kind l.name l.link

abbrev pub decreases-loop-link : goal.decreases-loop-link
decreases-loop-link l = l.link
