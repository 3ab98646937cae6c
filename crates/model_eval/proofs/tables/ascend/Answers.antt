use Rattle.std.proofs.Common.{arith}
use Rattle.std.proofs.lemmas.List.{take_all}
use Rattle.model_eval.proofs.AscentLemmas.{under_more, ascend_more}
use Rattle.model_eval.proofs.tables.ascend.Goals as goal

pub loop-i-preserved : goal.loop-i-preserved
loop-i-preserved c = record {
  under = under_more c.args.tables.now c.loop-i.i c.loop-i.next c.table_at.result.now c.table_at.ensures (omega arith) c.loop-i.invariant.under;
  rising = ascend_more c.args.tables.now c.loop-i.i c.loop-i.next c.table_at.result.now c.table_at.ensures (omega arith) c.loop-i.invariant.under c.loop-i.invariant.rising;
}

pub returns : goal.returns
returns c is = rw (take_all c.loop-i.i c.args.tables.now (omega arith)) at c.loop-i.invariant.rising
