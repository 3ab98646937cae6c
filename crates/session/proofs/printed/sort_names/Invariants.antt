use Rattle.std.proofs.Common.{◌≡◌, ◌++◌, drop, map}
use Rattle.smt_meaning.specs.Stack.{signature_of}
use Rattle.smt_meaning.specs.State.{sort_name}
use Rattle.session.proofs.printed.sort_names.Given as goal

abbrev pub invariant-loop-sort : goal.invariant-loop-sort
invariant-loop-sort l =
    l.out ++ map (sort_name (signature_of l.stack.frames)) (drop l.sort-index l.sorts) ≡ map (sort_name (signature_of l.stack.frames)) l.sorts
