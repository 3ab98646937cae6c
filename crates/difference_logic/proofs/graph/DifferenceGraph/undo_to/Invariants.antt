use Rattle.std.proofs.Common.{◌≡◌}
use Rattle.difference_logic.proofs.graph.DifferenceGraph.undo_to.Given as goal

abbrev pub invariant-loop-place : goal.invariant-loop-place
invariant-loop-place l = l.self ≡ l.initial.self
