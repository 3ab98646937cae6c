use Rattle.std.proofs.Common.{◌≡◌, ◌+◌, suc, subst, sym, arith}
use Rattle.elaborate.proofs.Copies.{AreFrom, none_from, one_from}
use Rattle.elaborate.proofs.bodies.nodes_from.Goals as goal

pub loop-id-init : goal.loop-id-init
loop-id-init c =
    subst (AreFrom c.args.store.now.trees c.args.count c.args.count) (sym c.new-nodes.ensures.items) (none_from c.args.store.now.trees c.args.count)

pub loop-id-preserved : goal.loop-id-preserved
loop-id-preserved c =
    let e : suc c.loop-id.id ≡ c.loop-id.id + 1 = omega arith in
    subst (λ n. AreFrom c.args.store.now.trees c.args.count n c.push.new.self.items) e
    (one_from c.args.store.now.trees c.args.count c.loop-id.id c.loop-id.nodes.items c.push.new.self.items c.in_ok-node.node c.loop-id.invariant (omega (arith, c.len-id-end.ensures.value, c.loop-id-test.true)) c.in_ok-push.ensures.items c.in_ok-node.ensures.tree c.in_ok-node.ensures.earlier)
