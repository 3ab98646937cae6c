use Rattle.std.proofs.Common.{◌≡◌, drop}
use Rattle.elaborate.specs.Own.{are_own}
use Rattle.elaborate.proofs.own.are_own.Given as goal

abbrev pub invariant-loop-place : goal.invariant-loop-place
invariant-loop-place l = are_own 0 l.arguments ≡ are_own l.place (drop l.place l.arguments)
