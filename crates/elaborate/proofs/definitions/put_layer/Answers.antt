use Rattle.std.proofs.Common.{rules, ◌≡◌, ◌<◌, ◌++◌, ◌∷◌, ◌+◌, [], List, length, map, take, All, subst, sym, ap, ◌∙◌, append_assoc, append-nil, arith}
use Rattle.smt_meaning.specs.declared.nodes.Node.{Node}
use Rattle.smt_meaning.specs.Nodes.{trees_of as terms_of}
use Rattle.smt_meaning.specs.Sorts.{trees_of}
use Rattle.smt_meaning.specs.Term.{Trees}
use Rattle.elaborate.specs.declared.value.Value.{Value}
use Rattle.elaborate.specs.Values.{AreValues, typed}
use Rattle.elaborate.specs.Putting.{value_at, IsPut, ArePut}
use Rattle.elaborate.proofs.Grow.{values_grow, typeds_same}
use Rattle.elaborate.proofs.Puts.{one_put, longer_both, values_push}
use Rattle.std.proofs.lemmas.List.{take_more}
use Rattle.elaborate.proofs.definitions.put_layer.Goals as goal

pub loop-node-init : goal.loop-node-init
loop-node-init c = record {
  count = omega arith;
  values = c.requires.values;
  put = λ ns ts xs e p. subst (λ ms. ArePut xs ts (terms_of ms) c.args.values.now.items c.args.store.now.trees) (sym (append-nil ns)) p;
  grown = (([], sym (append-nil c.args.store.now.trees)), search rules);
}

pub put_node-requires-clause-arguments : goal.put_node-requires-clause-arguments
put_node-requires-clause-arguments c = values_grow c.args.store.now.trees c.loop-node.store.trees c.args.arguments.now c.loop-node.invariant.grown.0 c.requires.arguments

pub put_node-requires-clause-values : goal.put_node-requires-clause-values
put_node-requires-clause-values c = subst (AreValues c.loop-node.store.trees) (sym c.deref.ensures.value) c.loop-node.invariant.values

pub put_node-requires-clause-places : goal.put_node-requires-clause-places
put_node-requires-clause-places c =
    let n : Node = c.node-item.result in
    subst (λ (vs : List Value). All (λ i. i < length vs) n.arguments) (sym c.deref.ensures.value)
    (subst (λ k. All (λ i. i < k) n.arguments) (sym c.loop-node.invariant.count)
    (subst (λ (m : Node). All (λ i. i < length c.args.values.now.items + c.loop-node.node-index) m.arguments) (sym c.node-item.is) (c.requires.nodes c.loop-node.node-index n c.loop-node-test.true)))

pub loop-node-preserved : goal.loop-node-preserved
loop-node-preserved c =
    let ts0 = c.args.store.now.trees in
    let ts = c.loop-node.store.trees in
    let us = c.put_node.new.store.trees in
    let i = c.loop-node.node-index in
    let n : Node = c.node-item.result in
    let taken : take (i + 1) c.args.nodes.now ≡ take i c.args.nodes.now ++ n ∷ [] =
    take_more c.args.nodes.now i n c.loop-node-test.true ∙ ap (λ (x : Node). take i c.args.nodes.now ++ x ∷ []) (sym c.node-item.is) in
    let same : trees_of (map (typed ts) c.args.arguments.now) ≡ trees_of (map (typed ts0) c.args.arguments.now) =
    ap trees_of (typeds_same ts0 ts c.args.arguments.now c.loop-node.invariant.grown.0 c.requires.arguments) in
    let value : IsPut (trees_of (map (typed ts0) c.args.arguments.now)) n.head (map (value_at c.loop-node.values.items) n.arguments) ts us c.in_ok-value.value =
    subst (λ (xs : Trees). IsPut xs n.head (map (value_at c.loop-node.values.items) n.arguments) ts us c.in_ok-value.value) same
    (subst (λ (vs : List Value). IsPut (trees_of (map (typed ts) c.args.arguments.now)) n.head (map (value_at vs) n.arguments) ts us c.in_ok-value.value) c.deref.ensures.value c.in_ok-value.ensures.ok) in
    let places : All (λ i. i < length c.loop-node.values.items) n.arguments =
    subst (λ k. All (λ i. i < k) n.arguments) (sym c.loop-node.invariant.count)
    (subst (λ (m : Node). All (λ j. j < length c.args.values.now.items + i) m.arguments) (sym c.node-item.is) (c.requires.nodes i n c.loop-node-test.true)) in
    let pushed : c.push.new.self.items ≡ c.loop-node.values.items ++ c.in_ok-value.value ∷ [] = c.in_ok-push.ensures.items in
    record {
      count = search rules;
      values = subst (AreValues us) (sym pushed) (values_push us c.loop-node.values.items c.in_ok-value.value (values_grow ts us c.loop-node.values.items c.put_node.ensures.longer.0 c.loop-node.invariant.values) value.value);
      put = λ ns before xs e p.
          subst (λ ms. ArePut xs before (terms_of ms) c.push.new.self.items us) (append_assoc ns (take i c.args.nodes.now) (n ∷ []) ∙ ap (λ ms. ns ++ ms) (sym taken))
          (subst (λ vs. ArePut xs before (terms_of ((ns ++ take i c.args.nodes.now) ++ n ∷ [])) vs us) (sym pushed)
          (one_put xs before (ns ++ take i c.args.nodes.now) n c.loop-node.values.items ts us c.in_ok-value.value (c.loop-node.invariant.put ns before xs e p) c.put_node.ensures.longer.0 places
          (subst (λ (ys : Trees). IsPut ys n.head (map (value_at c.loop-node.values.items) n.arguments) ts us c.in_ok-value.value) (sym e) value)));
      grown = (longer_both ts0 ts us c.loop-node.invariant.grown.0 c.put_node.ensures.longer.0, c.put_node.ensures.longer.1 ∙ c.loop-node.invariant.grown.1);
    }
