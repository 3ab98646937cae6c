use Rattle.std.proofs.Common.{◌≡◌, ◌++◌, drop}
use Rattle.smt_meaning.specs.Stack.{signature_of}
use Rattle.smt_meaning.specs.State.{printed_all}
use Rattle.session.proofs.printed.printed_all.Given as goal

abbrev pub invariant-loop-place : goal.invariant-loop-place
invariant-loop-place l =
    l.out ++ printed_all (signature_of l.stack.frames) (drop l.place l.sorts) (drop l.place l.values) ≡ printed_all (signature_of l.stack.frames) l.sorts l.values
