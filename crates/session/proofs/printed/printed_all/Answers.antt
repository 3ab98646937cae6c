use Rattle.std.proofs.Common.{arith}
use Rattle.smt_meaning.specs.Stack.{signature_of}
use Rattle.session.proofs.Prints.{all_are_told}
use Rattle.session.proofs.printed.printed_all.Goals as goal

pub returns : goal.returns
returns c =
    all_are_told (signature_of c.args.stack.now.frames) c.args.sorts.now c.args.values.now c.loop-place.place _ _ (omega arith) c.loop-place.invariant
