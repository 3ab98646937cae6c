use Rattle.std.proofs.Common.{◌≡◌, take}
use Rattle.term_store.specs.Latest.{hashes_of, IsIndex}
use Rattle.term_store.proofs.index.fill.Given as goal

abbrev pub invariant-loop-i : goal.invariant-loop-i
invariant-loop-i l = record {
  index : IsIndex (take l.i l.links) l.buckets;
  same : hashes_of l.links ≡ hashes_of l.fn.links;
}
