use Rattle.std.proofs.Common.{◌≡◌}
use Rattle.std.specs.Option.{option_copied}
use Rattle.smt_meaning.specs.Sexp.{sexp}
use Rattle.smt_meaning.specs.Core.{name_of, or_else}
use Rattle.smt_command.specs.Arguments.{left}
use Rattle.smt_command.specs.Namings.{name_of_first, depth_of_first}
use Rattle.smt_command.proofs.naming.name_of_whole.Given as goal

abbrev pub invariant-loop-inside : goal.invariant-loop-inside
invariant-loop-inside l = or_else (name_of_first (left l.named)) (option_copied l.found) ≡ name_of (sexp l.fn.term)

abbrev pub decreases-loop-inside : goal.decreases-loop-inside
decreases-loop-inside l = depth_of_first (left l.named)
