use Rattle.std.proofs.Common.{◌<◌, length, get_or, arith, ◌∙◌, refl}
use Rattle.term_store.specs.declared.index.Link.{Link}
use Rattle.term_store.proofs.IndexLemmas.{IsIndex-fill, hashes-set}
use Rattle.term_store.proofs.index.fill.Goals as goal

pub loop-i-preserved : goal.loop-i-preserved
loop-i-preserved c =
    let blank : Link = record { hash = 0; before = 0 } in
    let new : Link = record { hash = (get_or c.loop-i.links c.loop-i.i blank).hash; before = get_or c.loop-i.buckets c.bucket-at.result 0 } in
    let short : c.loop-i.i < length c.loop-i.links = omega arith in
    record {
      index = IsIndex-fill c.loop-i.links c.loop-i.buckets new c.loop-i.i c.bucket-at.result c.loop-i.invariant.index short (grind arith) (grind arith) (grind arith) refl;
      same = hashes-set c.loop-i.links c.loop-i.i new blank short refl ∙ c.loop-i.invariant.same;
    }
