use Rattle.std.proofs.Common.{refl}
use Rattle.smt_command.proofs.Left.{left_whole}
use Rattle.smt_command.proofs.arguments.Arguments.whole.Goals as goal

pub returns : goal.returns
returns c = left_whole (record { sexpr = c.args.sexpr; place = 0 }) c.len.ensures.matched refl
