use Rattle.std.proofs.Common.{◌≡◌, ◌<◌, length, get_or, arith, sym, ap, ◌∙◌}
use Rattle.term_store.specs.declared.index.Link.{Link}
use Rattle.term_store.specs.Latest.{hashes_of}
use Rattle.term_store.proofs.IndexLemmas.{starts_before, hash_at, length-hashes}
use Rattle.term_store.proofs.index.HashIndex.before.Goals as goal

pub follow-requires : goal.follow-requires
follow-requires c =
    let short : c.args.place < length c.self.inside.links.items = omega (arith, length-hashes c.self.inside.links.items, ap length c.self.view_is) in
    rw c.deref.ensures.value (starts_before c.self.inside.links.items c.self.inside.buckets.items c.args.place c.index-link.result.now c.self.invariant short c.index-link.ensures).chain

pub returns : goal.returns
returns c =
    let short : c.args.place < length c.self.inside.links.items = omega (arith, length-hashes c.self.inside.links.items, ap length c.self.view_is) in
    let link : Link = c.index-link.result.now in
    let here : get_or (hashes_of c.self.inside.links.items) c.args.place 0 ≡ link.hash =
    hash_at c.self.inside.links.items c.args.place link short ∙ ap (λ (l : Link). l.hash) (sym c.index-link.ensures) in
    let started = (starts_before c.self.inside.links.items c.self.inside.buckets.items c.args.place link c.self.invariant short c.index-link.ensures).same in
    rw (← c.self.view_is, here) (c.follow.ensures ∙ rw c.deref.ensures.value started)
