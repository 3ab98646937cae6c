use Rattle.std.proofs.Common.{◌≡◌, ◌+◌, ◌++◌, List, length, map, take}
use Rattle.smt_meaning.specs.declared.nodes.Node.{Node}
use Rattle.smt_meaning.specs.Nodes.{trees_of as terms_of}
use Rattle.smt_meaning.specs.Sorts.{trees_of}
use Rattle.smt_meaning.specs.Term.{Tree, Trees}
use Rattle.elaborate.specs.Values.{AreValues, HasGrown, typed}
use Rattle.elaborate.specs.Putting.{ArePut}
use Rattle.elaborate.proofs.definitions.put_layer.Given as goal

abbrev pub invariant-loop-node : goal.invariant-loop-node
invariant-loop-node l = record {
  count : length l.values.items ≡ length l.fn.values.items + l.node-index;
  values : AreValues l.store.trees l.values.items;
  put : (ns : List Node) (ts : List Tree) (xs : Trees) → xs ≡ trees_of (map (typed l.fn.store.trees) l.fn.arguments) → ArePut xs ts (terms_of ns) l.fn.values.items l.fn.store.trees
      → ArePut xs ts (terms_of (ns ++ take l.node-index l.nodes)) l.values.items l.store.trees;
  grown : HasGrown l.fn.store l.store;
}
