use Rattle.elaborate.proofs.Copies.{AreFrom}
use Rattle.elaborate.proofs.bodies.nodes_from.Given as goal

abbrev pub invariant-loop-id : goal.invariant-loop-id
invariant-loop-id l = AreFrom l.store.trees l.count l.id l.nodes.items
