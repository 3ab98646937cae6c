use Rattle.std.proofs.Common.{◌≡◌, ◌∙◌, ◌+◌, ◌++◌, ◌∷◌, [], ap, sym, map, take, length, arith}
use Rattle.std.proofs.lemmas.List.{take_more}
use Rattle.smt_meaning.specs.declared.nodes.Node.{Node}
use Rattle.smt_meaning.specs.Term.{tree_at}
use Rattle.smt_meaning.specs.Nodes.{tree_of}
use Rattle.session.proofs.Storing.{next_stored, one_more}
use Rattle.session.proofs.assignment.store_nodes.Goals as goal

pub loop-node-preserved : goal.loop-node-preserved
loop-node-preserved c =
    let ts = c.loop-node.store.trees in
    let us = c.store_node.new.store.trees in
    let places = c.loop-node.places.items in
    let places2 = c.store_node.new.places.items in
    let i = c.loop-node.node-index in
    let n : Node = c.node-item.result in
    let start = map (tree_at c.args.store.now.trees) c.args.places.now.items in
    let taken : take (i + 1) c.args.nodes.now ≡ take i c.args.nodes.now ++ n ∷ [] =
    take_more c.args.nodes.now i n c.loop-node-test.true ∙ ap (λ (x : Node). take i c.args.nodes.now ++ x ∷ []) (sym c.node-item.is) in
    let count : length places2 ≡ length places + 1 = one_more ts us places places2 (tree_of (map (tree_at ts) places) n) c.in_ok-store_node.ensures in
    let before : length places ≡ length c.args.places.now.items + i = c.loop-node.invariant.count in
    record {
      count = omega (arith, count, before);
      stored = next_stored ts us places places2 (take i c.args.nodes.now) (take (i + 1) c.args.nodes.now) n start c.loop-node.invariant.stored taken c.in_ok-store_node.ensures;
    }
