use Rattle.std.proofs.Common.{All, take}
use Rattle.closure_log.specs.Whole.{IsGrounded, SaysLiteral}
use Rattle.closure_log.proofs.whole.record_literals.Given as goal

abbrev pub invariant-loop-index : goal.invariant-loop-index
invariant-loop-index l = IsGrounded l.stack l.atoms.atoms l.log l.congruence × All (SaysLiteral l.stack.trees l.atoms.atoms l.congruence.closure.steps.items) (take l.index l.log)
