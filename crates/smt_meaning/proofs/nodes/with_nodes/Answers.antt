use Rattle.smt_meaning.proofs.Layers.{layers_join}
use Rattle.smt_meaning.proofs.nodes.with_nodes.Goals as goal

pub returns : goal.returns
returns c =
    layers_join c.args.layers.now c.in_ok-all.all.items c.push.new.self.items c.kept-count.result c.in_ok-last.last.items c.args.nodes.items c.in_ok-layer.layer c.in_ok-all.ensures c.in_ok-last.ensures
    (rw c.in_ok-append.ensures.items at c.in_ok-layer.ensures) c.in_ok-push.ensures.items
