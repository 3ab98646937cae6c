use Rattle.std.proofs.Common.{refl, subst}
use Rattle.std.specs.Prelude.{All}
use Rattle.std.proofs.lemmas.List.{take_all}
use Rattle.std.proofs.lemmas.List.Elements.{All-more}
use Rattle.sum_bounds.specs.Written.{IsKnown}
use Rattle.sum_bounds.proofs.splits.is_sum.Goals as goal

pub loop-summand-preserved : goal.loop-summand-preserved
loop-summand-preserved c = All-more (IsKnown c.args.copy.now.columns) c.args.sum.now c.loop-summand.summand-index _ c.loop-summand-test.true c.loop-summand.invariant (c.if-not-is_known.ensures refl)

pub returns : goal.returns
returns c = λ _. subst (All (IsKnown c.args.copy.now.columns)) (take_all c.loop-summand.summand-index c.args.sum.now c.loop-summand-test.false) c.loop-summand.invariant
