use Rattle.std.proofs.Common.{List, ◌++◌, ap, sym, ◌∙◌}
use Rattle.smt_meaning.specs.declared.nodes.Node.{Node}
use Rattle.smt_meaning.specs.Nodes.{joined}
use Rattle.smt_meaning.proofs.Layers.{nodes_append, trees_append}
use Rattle.smt_meaning.proofs.nodes.Terms.with_nodes.Goals as goal

pub invariant_of-result : goal.invariant_of-result
invariant_of-result c = nodes_append (joined c.self.inside.layers.items) c.args.nodes.items (joined c.in_ok-layers.layers.items) c.args.self.now (c.in_ok-layers.ensures ∙ ap (λ (ls : List (List Node)). joined ls ++ c.args.nodes.items) c.deref.ensures.value) (sym c.self.view_is) c.self.invariant c.requires

pub returns : goal.returns
returns c = trees_append (joined c.self.inside.layers.items) c.args.nodes.items (joined c.in_ok-layers.layers.items) c.args.self.now (c.in_ok-layers.ensures ∙ ap (λ (ls : List (List Node)). joined ls ++ c.args.nodes.items) c.deref.ensures.value) (sym c.self.view_is)
