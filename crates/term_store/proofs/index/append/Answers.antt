use Rattle.std.proofs.Common.{arith}
use Rattle.term_store.proofs.IndexLemmas.{IsIndex-push}
use Rattle.term_store.proofs.index.append.Goals as goal

pub returns-clause-index : goal.returns-clause-index
returns-clause-index c =
    rw c.in_ok-push.ensures.items
    (IsIndex-push c.args.links.now.items c.args.buckets.now _ c.bucket-at.result c.len.result c.requires.index c.requires.room c.requires.few (grind arith) (grind arith) (grind arith))
