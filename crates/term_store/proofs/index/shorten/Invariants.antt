use Rattle.std.proofs.Common.{◌≡◌, take, vec_len}
use Rattle.term_store.specs.Latest.{hashes_of, IsIndex}
use Rattle.term_store.proofs.index.shorten.Given as goal

abbrev pub invariant-loop-links : goal.invariant-loop-links
invariant-loop-links l = record {
  index : IsIndex l.links.items l.buckets;
  same : take l.len (hashes_of l.links.items) ≡ take l.len (hashes_of l.fn.links.items);
}

abbrev pub decreases-loop-links : goal.decreases-loop-links
decreases-loop-links l = vec_len l.links
