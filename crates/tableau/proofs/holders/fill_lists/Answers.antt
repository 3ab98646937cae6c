use Rattle.std.proofs.Common.{ap, ◌∙◌, arith, length}
use Rattle.std.proofs.lemmas.List.{length_push}
use Rattle.tableau.specs.Holders.{items_at}
use Rattle.tableau.proofs.Lists.{items_push}
use Rattle.tableau.proofs.holders.fill_lists.Goals as goal

pub loop-alloc-preserved : goal.loop-alloc-preserved
loop-alloc-preserved c = (
  λ j. ap (λ vs. items_at vs j) c.in_ok-push.ensures.items ∙ items_push c.loop-alloc.holders.items c.new.result j c.new.ensures.items ∙ c.loop-alloc.invariant.0 j,
  omega (arith, ap length c.in_ok-push.ensures.items, length_push c.loop-alloc.holders.items c.new.result, c.loop-alloc.invariant.1),
)
