use Rattle.std.proofs.Common.{◌≡◌, ◌≤◌, length, drop}
use Rattle.elaborate.specs.Bodies.{bindings_from}
use Rattle.elaborate.proofs.bodies.bind.Given as goal

abbrev pub invariant-loop-place : goal.invariant-loop-place
invariant-loop-place l = (l.place ≤ length l.parameters) × (l.bindings ≡ bindings_from l.place (drop l.place l.parameters))

abbrev pub decreases-loop-place : goal.decreases-loop-place
decreases-loop-place l = l.place
