use Rattle.std.proofs.Common.{◌≡◌, take}
use Rattle.smt_meaning.specs.Nodes.{joined}
use Rattle.smt_meaning.proofs.nodes.copy_layers.Given as goal

abbrev pub invariant-loop-layer : goal.invariant-loop-layer
invariant-loop-layer l = l.copies.items ≡ joined (take l.layer-index l.layers)
