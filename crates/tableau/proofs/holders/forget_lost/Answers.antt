use Rattle.std.proofs.Common.{◌∙◌}
use Rattle.tableau.proofs.holders.forget_lost.Goals as goal

pub loop-change-preserved : goal.loop-change-preserved
loop-change-preserved c = record {
  count = c.forget.ensures.count ∙ c.loop-change.invariant.count;
  keeps = λ j k d lk has h. c.forget.ensures.keeps j k d lk has (c.loop-change.invariant.keeps j k d lk has h);
}
