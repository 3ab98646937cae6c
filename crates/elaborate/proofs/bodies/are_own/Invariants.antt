use Rattle.std.proofs.Common.{◌≡◌, drop}
use Rattle.elaborate.specs.Own.{are_own_nodes}
use Rattle.elaborate.proofs.bodies.are_own.Given as goal

abbrev pub invariant-loop-node : goal.invariant-loop-node
invariant-loop-node l = are_own_nodes l.parameters l.nodes ≡ are_own_nodes l.parameters (drop l.node-index l.nodes)
