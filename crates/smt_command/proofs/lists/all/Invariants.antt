use Rattle.std.proofs.Common.{◌≡◌}
use Rattle.smt_meaning.specs.Command.{each}
use Rattle.smt_command.specs.Arguments.{left}
use Rattle.smt_command.proofs.ReadAll.{joined, count}
use Rattle.smt_command.proofs.lists.all.Given as goal

abbrev pub invariant-loop-inside : goal.invariant-loop-inside
invariant-loop-inside g l = joined l.items (each g.T.Listed.read_as (left l.inside)) ≡ each g.T.Listed.read_as (left l.fn.inside)

abbrev pub decreases-loop-inside : goal.decreases-loop-inside
decreases-loop-inside g l = count (left l.inside)
