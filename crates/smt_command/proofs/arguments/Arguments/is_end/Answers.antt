use Rattle.std.proofs.Common.{ap, sym, arith}
use Rattle.smt_command.specs.Arguments.{is_end}
use Rattle.smt_command.proofs.Left.{left_past, left_leave, not_end}
use Rattle.smt_command.proofs.arguments.Arguments.is_end.Goals as goal

pub returns-then-self-len : goal.returns-then-self-len
returns-then-self-len c = sym (ap is_end (left_past c.args.self.now (omega arith)))

pub returns-in-Leave : goal.returns-in-Leave
returns-in-Leave c = sym (ap is_end (left_leave c.args.self.now c.len.ensures.matched c.in-Leave.ensures.rest))

pub returns-in_default : goal.returns-in_default
returns-in_default c = not_end c.args.self.now c.token.result c.len.ensures.matched c.token.ensures.rest c.in_default.not-Leave
