use Rattle.std.proofs.Common.{◌≡◌}
use Rattle.smt_meaning.specs.Core.{first_named}
use Rattle.smt_command.specs.Arguments.{left}
use Rattle.smt_command.specs.Namings.{count}
use Rattle.smt_command.proofs.naming.first_name.Given as goal

abbrev pub invariant-loop-attributes : goal.invariant-loop-attributes
invariant-loop-attributes l = first_named (left l.attributes) ≡ first_named (left l.fn.attributes)

abbrev pub decreases-loop-attributes : goal.decreases-loop-attributes
decreases-loop-attributes l = count (left l.attributes)
