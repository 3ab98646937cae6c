use Rattle.std.proofs.Common.{◌≡◌, ◌++◌, ◌∷◌, ◌+◌, [], List, map, take, subst, sym, ap, ◌∙◌}
use Rattle.smt_meaning.specs.declared.nodes.Node.{Node}
use Rattle.smt_meaning.specs.Nodes.{joined, trees_of as terms_of}
use Rattle.smt_meaning.specs.Sorts.{trees_of}
use Rattle.elaborate.specs.Values.{typed}
use Rattle.elaborate.specs.Putting.{ArePut}
use Rattle.elaborate.proofs.Grow.{values_grow, typeds_same}
use Rattle.elaborate.proofs.Puts.{longer_both}
use Rattle.term_store.proofs.Layers.{joined_next}
use Rattle.elaborate.proofs.Laid.{layer_nodes}
use Rattle.std.proofs.lemmas.List.{take_more}
use Rattle.elaborate.proofs.definitions.put_all.Goals as goal

pub put_layer-requires-clause-arguments : goal.put_layer-requires-clause-arguments
put_layer-requires-clause-arguments c = values_grow c.args.store.now.trees c.loop-layer.store.trees c.args.arguments.now c.loop-layer.invariant.grown.0 c.requires.arguments

pub put_layer-requires-clause-nodes : goal.put_layer-requires-clause-nodes
put_layer-requires-clause-nodes c =
    let i = c.loop-layer.layer-index in
    let p : List Node = c.layer-item.result in
    let taken : take (i + 1) c.args.layers.now ≡ take i c.args.layers.now ++ p ∷ [] =
    take_more c.args.layers.now i p c.loop-layer-test.true ∙ ap (λ (x : List Node). take i c.args.layers.now ++ x ∷ []) (sym c.layer-item.is) in
    layer_nodes c.args.layers.now i p c.nodes.result.now (trees_of (map (typed c.args.store.now.trees) c.args.arguments.now)) c.args.store.now.trees c.loop-layer.values.items c.loop-layer.store.trees taken c.nodes.ensures c.requires.nodes c.loop-layer.invariant.put

pub loop-layer-preserved : goal.loop-layer-preserved
loop-layer-preserved c =
    let ts0 = c.args.store.now.trees in
    let ts = c.loop-layer.store.trees in
    let us = c.put_layer.new.store.trees in
    let i = c.loop-layer.layer-index in
    let p : List Node = c.layer-item.result in
    let taken : take (i + 1) c.args.layers.now ≡ take i c.args.layers.now ++ p ∷ [] =
    take_more c.args.layers.now i p c.loop-layer-test.true ∙ ap (λ (x : List Node). take i c.args.layers.now ++ x ∷ []) (sym c.layer-item.is) in
    let same : trees_of (map (typed ts0) c.args.arguments.now) ≡ trees_of (map (typed ts) c.args.arguments.now) =
    sym (ap trees_of (typeds_same ts0 ts c.args.arguments.now c.loop-layer.invariant.grown.0 c.requires.arguments)) in
    let all : joined (take i c.args.layers.now) ++ c.nodes.result.now ≡ joined (take (i + 1) c.args.layers.now) =
    ap (λ (ns : List Node). joined (take i c.args.layers.now) ++ ns) c.nodes.ensures ∙ sym (joined_next c.args.layers.now i p taken) in
    record {
      put = subst (λ (ns : List Node). ArePut (trees_of (map (typed ts0) c.args.arguments.now)) ts0 (terms_of ns) c.put_layer.new.values.items us) all
          (c.in_ok-put_layer.ensures.ok (joined (take i c.args.layers.now)) ts0 (trees_of (map (typed ts0) c.args.arguments.now)) same c.loop-layer.invariant.put);
      grown = (longer_both ts0 ts us c.loop-layer.invariant.grown.0 c.put_layer.ensures.longer.0, c.put_layer.ensures.longer.1 ∙ c.loop-layer.invariant.grown.1);
    }
