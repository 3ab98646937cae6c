use Rattle.std.proofs.Common.{ap, sym, arith}
use Rattle.smt_command.specs.Arguments.{first_by, parts}
use Rattle.smt_command.proofs.Left.{left_past, left_enter, lists_enter, no_parts}
use Rattle.smt_command.proofs.arguments.Arguments.enter.Goals as goal

pub returns-then-self-len-clause-parts : goal.returns-then-self-len-clause-parts
returns-then-self-len-clause-parts c = sym (ap (first_by parts) (left_past c.args.self.now (omega arith)))

pub returns-in-Enter-clause-parts : goal.returns-in-Enter-clause-parts
returns-in-Enter-clause-parts c = sym (ap (first_by parts) (left_enter c.args.self.now c.len.ensures.matched c.in-Enter.ensures.rest))

pub returns-in_default-clause-parts : goal.returns-in_default-clause-parts
returns-in_default-clause-parts c = no_parts c.args.self.now c.token.result c.len.ensures.matched c.token.ensures.rest c.in_default.not-Enter

pub returns-in-Enter-clause-inside : goal.returns-in-Enter-clause-inside
returns-in-Enter-clause-inside c = (lists_enter c.args.self.now c.len.ensures.matched c.in-Enter.ensures.rest).1
