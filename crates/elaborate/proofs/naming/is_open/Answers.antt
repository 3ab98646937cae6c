use Rattle.std.proofs.Common.{arith}
use Rattle.elaborate.proofs.Named.{open_is, nothing_ahead}
use Rattle.elaborate.proofs.naming.is_open.Goals as goal

pub returns : goal.returns
returns c = open_is c.args.term.now c.args.bindings.now c.args.place c.has_free_first.result c.has_free_first.ensures

pub returns-then-place-len : goal.returns-then-place-len
returns-then-place-len c = λ ts. nothing_ahead c.args.term.now ts c.args.bindings.now c.args.place (omega arith)
