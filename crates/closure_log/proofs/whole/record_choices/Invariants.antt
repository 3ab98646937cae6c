use Rattle.std.proofs.Common.{ℕ, ◌<◌, All}
use Rattle.closure_log.specs.Whole.{IsGrounded, SaysLiteral, SaysChoice}
use Rattle.closure_log.proofs.whole.record_choices.Given as goal

abbrev pub invariant-loop-place : goal.invariant-loop-place
invariant-loop-place l =
    IsGrounded l.stack l.atoms.atoms l.log l.congruence × All (SaysLiteral l.stack.trees l.atoms.atoms l.congruence.closure.steps.items) l.log
    × ((p : ℕ) → p < l.place → SaysChoice l.stack.trees l.atoms.atoms l.log l.congruence.closure.steps.items p)
