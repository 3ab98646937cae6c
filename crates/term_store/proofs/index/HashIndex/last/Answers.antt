use Rattle.std.proofs.Common.{◌<◌, length, arith, ◌∙◌}
use Rattle.std.proofs.lemmas.List.{get_or_read}
use Rattle.term_store.proofs.IndexLemmas.{starts_last, length-hashes}
use Rattle.term_store.proofs.index.HashIndex.last.Goals as goal

pub follow-requires : goal.follow-requires
follow-requires c =
    let short : c.bucket.result < length c.self.inside.buckets.items = grind arith in
    rw c.deref.ensures.value
    (starts_last c.self.inside.links.items c.self.inside.buckets.items c.args.hash c.bucket.result c.index-first.result.now c.self.invariant short (grind arith)
    (get_or_read c.self.inside.buckets.items c.bucket.result c.index-first.result.now short c.index-first.ensures 0)).chain

pub returns : goal.returns
returns c =
    let short : c.bucket.result < length c.self.inside.buckets.items = grind arith in
    let started = (starts_last c.self.inside.links.items c.self.inside.buckets.items c.args.hash c.bucket.result c.index-first.result.now c.self.invariant short (grind arith)
    (get_or_read c.self.inside.buckets.items c.bucket.result c.index-first.result.now short c.index-first.ensures 0)).same in
    rw (← c.self.view_is, length-hashes c.self.inside.links.items) (c.follow.ensures ∙ rw c.deref.ensures.value started)
