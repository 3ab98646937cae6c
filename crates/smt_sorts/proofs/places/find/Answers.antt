use Rattle.std.proofs.Common.{arith}
use Rattle.smt_sorts.proofs.PlaceLemmas.{none_with_id, none_behind}
use Rattle.smt_sorts.proofs.places.find.Goals as goal

pub returns-then-place-declarations-clause-none : goal.returns-then-place-declarations-clause-none
returns-then-place-declarations-clause-none c = none_behind c.args.declarations.now c.args.id c.below_id-place.result c.below_id-place.ensures.below (omega arith)

pub returns-else-id-clause-none : goal.returns-else-id-clause-none
returns-else-id-clause-none c =
    none_with_id c.args.declarations.now c.args.id c.below_id-place.result c.index-declarations-place.result c.requires c.below_id-place.ensures.below c.below_id-place.ensures.above (omega arith) c.index-declarations-place.is
    (λ e. omega arith)
