use Rattle.std.proofs.Common.{◌≡◌, ◌+◌, length, map, take}
use Rattle.smt_meaning.specs.Term.{tree_at}
use Rattle.smt_meaning.specs.Nodes.{trees_from}
use Rattle.session.specs.Stored.{AreStored}
use Rattle.session.proofs.assignment.store_nodes.Given as goal

abbrev pub invariant-loop-node : goal.invariant-loop-node
invariant-loop-node l = record {
  count : length l.places.items ≡ length l.fn.places.items + l.node-index;
  stored : AreStored (trees_from (map (tree_at l.fn.store.trees) l.fn.places.items) (take l.node-index l.nodes)) l.store.trees l.places.items;
}
