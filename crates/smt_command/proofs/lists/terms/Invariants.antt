use Rattle.std.proofs.Common.{◌≡◌, ◌++◌}
use Rattle.smt_meaning.specs.Command.{terms}
use Rattle.smt_command.specs.Arguments.{left}
use Rattle.smt_command.proofs.ReadAll.{count}
use Rattle.smt_command.proofs.lists.terms.Given as goal

abbrev pub invariant-loop-terms : goal.invariant-loop-terms
invariant-loop-terms l = l.terms ++ terms (left l.inside) ≡ terms (left l.fn.inside)

abbrev pub decreases-loop-terms : goal.decreases-loop-terms
decreases-loop-terms l = count (left l.inside)
