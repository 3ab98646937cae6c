use Rattle.std.proofs.Common.{arith}
use Rattle.reply_print.proofs.Models.{all_parameters}
use Rattle.reply_print.proofs.model.parameters.Goals as goal

pub returns : goal.returns
returns c = all_parameters _ _ c.args.sorts.now _ c.loop-place.place (omega arith) c.loop-place.invariant
