use Rattle.std.proofs.Common.{◌≡◌, ◌++◌, take}
use Rattle.smt_meaning.proofs.nodes.copy_nodes.Given as goal

abbrev pub invariant-loop-node : goal.invariant-loop-node
invariant-loop-node l = l.copies.items ≡ l.fn.copies.items ++ take l.node-index l.nodes
