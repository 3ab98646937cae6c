use Rattle.std.proofs.Common.{map, take}
use Rattle.smt_meaning.specs.Nodes.{joined, trees_of as terms_of}
use Rattle.smt_meaning.specs.Sorts.{trees_of}
use Rattle.elaborate.specs.Values.{HasGrown, typed}
use Rattle.elaborate.specs.Putting.{ArePut}
use Rattle.elaborate.proofs.definitions.put_all.Given as goal

abbrev pub invariant-loop-layer : goal.invariant-loop-layer
invariant-loop-layer l = record {
  put : ArePut (trees_of (map (typed l.fn.store.trees) l.fn.arguments)) l.fn.store.trees (terms_of (joined (take l.layer-index l.layers))) l.values.items l.store.trees;
  grown : HasGrown l.fn.store l.store;
}
