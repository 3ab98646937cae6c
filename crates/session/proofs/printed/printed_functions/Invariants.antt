use Rattle.std.proofs.Common.{◌≡◌, ◌++◌, drop}
use Rattle.smt_meaning.specs.Stack.{signature_of}
use Rattle.smt_meaning.specs.State.{printed_functions}
use Rattle.session.proofs.printed.printed_functions.Given as goal

abbrev pub invariant-loop-declaration : goal.invariant-loop-declaration
invariant-loop-declaration l =
    let ds = signature_of l.stack.frames in
    l.out ++ printed_functions ds (drop l.declaration-index ds) (drop l.next l.tables) ≡ printed_functions ds ds l.tables
