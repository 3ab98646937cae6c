use Rattle.std.proofs.Common.{◌≡◌, ◌++◌, drop, map}
use Rattle.smt_meaning.specs.Stack.{signature_of}
use Rattle.smt_meaning.specs.State.{printed_row}
use Rattle.session.proofs.printed.printed_rows.Given as goal

abbrev pub invariant-loop-row : goal.invariant-loop-row
invariant-loop-row l =
    l.out ++ map (printed_row (signature_of l.stack.frames) l.declaration) (drop l.row-index l.rows) ≡ map (printed_row (signature_of l.stack.frames) l.declaration) l.rows
