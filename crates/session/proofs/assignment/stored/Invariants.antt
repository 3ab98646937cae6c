use Rattle.std.proofs.Common.{take}
use Rattle.smt_meaning.specs.Nodes.{joined, trees_of}
use Rattle.session.specs.Stored.{AreStored}
use Rattle.session.proofs.assignment.stored.Given as goal

abbrev pub invariant-loop-layer : goal.invariant-loop-layer
invariant-loop-layer l = AreStored (trees_of (joined (take l.layer-index l.layers))) l.store.trees l.places.items
