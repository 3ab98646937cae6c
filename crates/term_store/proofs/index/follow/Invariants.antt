use Rattle.std.proofs.Common.{◌≡◌}
use Rattle.term_store.specs.Latest.{last_place, hashes_of, IsOnChain}
use Rattle.term_store.proofs.index.follow.Given as goal

abbrev pub invariant-loop-link : goal.invariant-loop-link
invariant-loop-link l = record {
  chain : IsOnChain l.links l.hash l.link;
  same : last_place (hashes_of l.links) l.hash l.link ≡ last_place (hashes_of l.links) l.hash l.start;
}

abbrev pub decreases-loop-link : goal.decreases-loop-link
decreases-loop-link l = l.link
