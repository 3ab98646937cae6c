use Rattle.std.proofs.Common.{◌≡◌, ◌++◌, ◌∷◌, ◌+◌, [], List, take, ap, sym, ◌∙◌}
use Rattle.std.proofs.lemmas.List.{take_more}
use Rattle.smt_meaning.specs.declared.nodes.Node.{Node}
use Rattle.smt_meaning.proofs.Layers.{one_layer}
use Rattle.smt_meaning.proofs.nodes.copy_layers.Goals as goal

pub loop-layer-preserved : goal.loop-layer-preserved
loop-layer-preserved c =
    let i = c.loop-layer.layer-index in
    let p : List Node = c.layer-item.result in
    let taken : take (i + 1) c.args.layers.now ≡ take i c.args.layers.now ++ p ∷ [] =
    take_more c.args.layers.now i p c.loop-layer-test.true ∙ ap (λ (x : List Node). take i c.args.layers.now ++ x ∷ []) (sym c.layer-item.is) in
    one_layer c.args.layers.now i p c.nodes.result.now c.loop-layer.copies.items c.copy_nodes.new.copies.items taken c.nodes.ensures c.loop-layer.invariant c.in_ok-copy_nodes.ensures
