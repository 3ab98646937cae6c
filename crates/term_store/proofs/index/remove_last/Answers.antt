use Rattle.std.proofs.Common.{subst}
use Rattle.term_store.specs.Latest.{IsIndex}
use Rattle.term_store.proofs.IndexLemmas.{IsIndex-pop}
use Rattle.term_store.proofs.index.remove_last.Goals as goal

pub returns-in-Some-clause-index : goal.returns-in-Some-clause-index
returns-in-Some-clause-index c =
    IsIndex-pop c.pop.new.self.items c.args.buckets.now c.in-Some.link c.bucket-at.result
    (subst (λ ls. IsIndex ls c.args.buckets.now) c.in-Some.ensures.items c.requires.index) c.bucket-at.ensures.value
