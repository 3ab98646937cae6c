use Rattle.std.proofs.Common.{arith}
use Rattle.tableau.proofs.Lists.{taken_all}
use Rattle.tableau.proofs.Passes.{made_more, others_more, made_past, others_past}
use Rattle.tableau.proofs.rows.commit_rows.Goals as goal

pub loop-here-preserved-then-here-rows : goal.loop-here-preserved-then-here-rows
loop-here-preserved-then-here-rows c = record {
  made = made_past c.args.rows.now c.loop-here.rows c.args.list.now c.loop-here.here-index (omega arith) (λ l. absurd (omega arith)) c.loop-here.invariant.made;
  others = others_past c.args.rows.now c.loop-here.rows c.args.list.now c.loop-here.here-index (omega arith) c.loop-here.invariant.others;
}

pub loop-here-preserved : goal.loop-here-preserved
loop-here-preserved c = record {
  made = made_more c.args.rows.now c.loop-here.rows c.args.list.now c.loop-here.here-index c.index-rows-here.result c.commit.new.row (omega arith) (omega arith) c.commit.ensures.made c.commit.ensures.once c.loop-here.invariant.made
      c.loop-here.invariant.others;
  others = others_more c.args.rows.now c.loop-here.rows c.args.list.now c.loop-here.here-index c.commit.new.row (omega arith) c.loop-here.invariant.others;
}

pub returns-clause-made : goal.returns-clause-made
returns-clause-made c = λ k d lk h. (c.loop-here.invariant.made k d (omega (arith, lk)) (taken_all c.args.list.now c.loop-here.here-index k (omega arith) h)).0
