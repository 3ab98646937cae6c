use Rattle.std.proofs.Common.{arith}
use Rattle.reply_print.proofs.Flat.{all_parts}
use Rattle.reply_print.proofs.list.parts.Goals as goal

pub returns : goal.returns
returns g c = all_parts g.T.Print.text _ _ c.loop-part.first c.args.items.now c.loop-part.part-index (omega arith) c.loop-part.invariant
