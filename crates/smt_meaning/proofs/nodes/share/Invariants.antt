use Rattle.std.proofs.Common.{◌≡◌, take}
use Rattle.smt_meaning.proofs.nodes.share.Given as goal

abbrev pub invariant-loop-layer : goal.invariant-loop-layer
invariant-loop-layer l = l.shared.items ≡ take l.layer-index l.layers
