use Rattle.std.proofs.Common.{◌≡◌, All, length, take}
use Rattle.closure_log.specs.Distinct.{KeepsDistinct}
use Rattle.closure_log.proofs.distinct.equal_distinct.Given as goal

abbrev pub invariant-loop-place : goal.invariant-loop-place
invariant-loop-place l = (length l.newest.items ≡ length l.congruence.closure.graph) × All (KeepsDistinct l.stack.trees l.atoms.atoms l.log l.congruence) (take l.place-index l.parts)
