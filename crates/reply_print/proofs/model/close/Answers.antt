use Rattle.reply_print.proofs.Models.{one_closed}
use Rattle.reply_print.proofs.model.close.Goals as goal

pub loop-preserved : goal.loop-preserved
loop-preserved c = one_closed c.loop.out _ _ c.args.count c.loop.counter c.loop-test.true c.in_ok-push.ensures.ok c.loop.invariant
