use Rattle.std.proofs.Common.{length, ◌-◌}
use Rattle.simplex_steps.specs.Suspects.{Covers}
use Rattle.simplex_steps.proofs.suspects.sift.Given as goal

abbrev pub invariant-loop-place : goal.invariant-loop-place
invariant-loop-place l = Covers l.suspects l.columns

abbrev pub decreases-loop-place : goal.decreases-loop-place
decreases-loop-place l = length l.suspects.variables - l.place
