use Rattle.std.proofs.Common.{◌≡◌, ◌∙◌, ◌+◌, ◌++◌, ◌∷◌, [], ap, sym, take, List}
use Rattle.std.proofs.lemmas.List.{take_more}
use Rattle.smt_meaning.specs.declared.nodes.Node.{Node}
use Rattle.session.proofs.Storing.{part_nodes, part_stored}
use Rattle.session.proofs.assignment.stored.Goals as goal

pub store_nodes-requires-clause-nodes : goal.store_nodes-requires-clause-nodes
store_nodes-requires-clause-nodes c =
    let i = c.loop-layer.layer-index in
    let p : List Node = c.layer-item.result in
    let taken : take (i + 1) c.args.layers.now ≡ take i c.args.layers.now ++ p ∷ [] =
    take_more c.args.layers.now i p c.loop-layer-test.true ∙ ap (λ (x : List Node). take i c.args.layers.now ++ x ∷ []) (sym c.layer-item.is) in
    part_nodes c.args.layers.now i p c.nodes.result.now c.loop-layer.store.trees c.loop-layer.places.items taken c.nodes.ensures c.requires c.loop-layer.invariant

pub loop-layer-preserved : goal.loop-layer-preserved
loop-layer-preserved c =
    let i = c.loop-layer.layer-index in
    let p : List Node = c.layer-item.result in
    let taken : take (i + 1) c.args.layers.now ≡ take i c.args.layers.now ++ p ∷ [] =
    take_more c.args.layers.now i p c.loop-layer-test.true ∙ ap (λ (x : List Node). take i c.args.layers.now ++ x ∷ []) (sym c.layer-item.is) in
    part_stored c.args.layers.now i p c.nodes.result.now c.loop-layer.store.trees c.store_nodes.new.store.trees c.loop-layer.places.items c.store_nodes.new.places.items taken c.nodes.ensures c.loop-layer.invariant
    c.in_ok-store_nodes.ensures
