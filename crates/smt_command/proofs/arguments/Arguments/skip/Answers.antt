use Rattle.std.proofs.Common.{arith, refl}
use Rattle.smt_command.specs.Arguments.{open_lists}
use Rattle.smt_command.proofs.Left.{next, IsBehind, lists_past, lists_leave, lists_enter, behind_nothing, behind_word, behind_list, left_behind}
use Rattle.smt_command.proofs.arguments.Arguments.skip.Goals as goal

pub returns-then-self-len-clause-lists : goal.returns-then-self-len-clause-lists
returns-then-self-len-clause-lists c = behind_nothing c.args.self.now _ (lists_past c.args.self.now (omega arith))

pub returns-then-self-len-clause-rest : goal.returns-then-self-len-clause-rest
returns-then-self-len-clause-rest c = left_behind c.args.self.now c.args.self.now (behind_nothing c.args.self.now _ (lists_past c.args.self.now (omega arith)))

pub end_of_list-self-requires-clause-open : goal.end_of_list-self-requires-clause-open
unfolding open_lists
end_of_list-self-requires-clause-open c = (lists_enter c.args.self.now c.len.ensures.matched c.in-Enter.ensures.rest).1

after_list : goal.returns-in-Enter-clause-lists
unfolding open_lists
after_list c =
    behind_list c.args.self.now (record { sexpr = c.args.self.now.sexpr; place = c.end_of_list-self.result }) c.len.ensures.matched c.in-Enter.ensures.rest c.end_of_list-self.ensures.after

pub returns-in-Enter-clause-lists : goal.returns-in-Enter-clause-lists
returns-in-Enter-clause-lists c = after_list c

pub returns-in-Enter-clause-rest : goal.returns-in-Enter-clause-rest
returns-in-Enter-clause-rest c = left_behind c.args.self.now (record { sexpr = c.args.self.now.sexpr; place = c.end_of_list-self.result }) (after_list c)

pub returns-in-Leave-clause-lists : goal.returns-in-Leave-clause-lists
returns-in-Leave-clause-lists c = behind_nothing c.args.self.now _ (lists_leave c.args.self.now c.len.ensures.matched c.in-Leave.ensures.rest)

pub returns-in-Leave-clause-rest : goal.returns-in-Leave-clause-rest
returns-in-Leave-clause-rest c =
    left_behind c.args.self.now c.args.self.now (behind_nothing c.args.self.now _ (lists_leave c.args.self.now c.len.ensures.matched c.in-Leave.ensures.rest))

pub returns-in_default : goal.returns-in_default
returns-in_default c =
    let a = c.args.self.now in
    let b : IsBehind a (next a) = behind_word a c.token.result c.len.ensures.matched c.token.ensures.rest c.in_default.not-Enter c.in_default.not-Leave in
    record { rest = left_behind a (next a) b; lists = b; same = refl; order = omega arith; within = λ h. omega arith; matched = c.len.ensures.matched }
