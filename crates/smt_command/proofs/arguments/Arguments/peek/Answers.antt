use Rattle.std.proofs.Common.{ap, sym, arith}
use Rattle.smt_meaning.specs.Seen.{seen}
use Rattle.smt_command.specs.Arguments.{first_by, token_in}
use Rattle.smt_command.proofs.Left.{left_past, no_token, left_word, not_parenthesis}
use Rattle.smt_command.proofs.arguments.Arguments.peek.Goals as goal

pub returns-then-self-len : goal.returns-then-self-len
returns-then-self-len c = sym (ap (first_by token_in) (left_past c.args.self.now (omega arith)))

pub returns-in-Enter : goal.returns-in-Enter
returns-in-Enter c = no_token c.args.self.now c.token.result c.len.ensures.matched c.token.ensures.rest c.in-Enter.is

pub returns-in_default : goal.returns-in_default
returns-in_default c =
    sym (ap (first_by token_in) (left_word c.args.self.now (seen c.token.result) c.len.ensures.matched c.token.ensures.rest (not_parenthesis c.token.result c.in_default.not-Enter c.in_default.not-Leave)))
