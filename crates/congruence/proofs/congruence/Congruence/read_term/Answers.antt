use Rattle.std.proofs.Common.{◌<◌, ℕ, List, All, length, sym, ◌∙◌, subst}
use Rattle.point_closure.specs.Closure.{Point, AreRead}
use Rattle.congruence.specs.Reading.{arguments_for, AreSeen}
use Rattle.congruence.proofs.ReadingLemmas.{arguments_below, read_next, see_next}
use Rattle.congruence.proofs.congruence.Congruence.read_term.Goals as goal

pub add-requires-clause-earlier : goal.add-requires-clause-earlier
add-requires-clause-earlier c =
    subst (λ (l : List ℕ). All (λ i. i < length c.args.self.now.closure.graph) l) (sym (c.deref.ensures.value ∙ c.in_ok-arguments_of.ensures))
    (subst (λ n. All (λ i. i < n) (arguments_for c.shape_of-shape.result c.node-node.result.arguments.now)) (sym c.requires.next)
    (arguments_below c.shape_of-shape.result c.node-node.result.arguments.now c.args.term c.node-node.ensures.earlier))

pub returns-clause-read : goal.returns-clause-read
returns-clause-read c =
    subst (λ (ps : List Point). AreRead c.args.store.now.trees ps) (sym c.in_ok-add.ensures.ok)
    (read_next c.args.store.now.trees c.args.self.now.closure.graph c.node-node.result.head c.node-node.result.arguments.now c.is_empty.result c.shape_of-shape.result c.deref.result.now c.args.term
    c.is_empty.ensures c.shape_of-shape.ensures (c.deref.ensures.value ∙ c.in_ok-arguments_of.ensures) c.requires.next c.node-node.ensures.tree c.requires.read)

pub returns-clause-seen : goal.returns-clause-seen
returns-clause-seen c =
    subst (λ (ps : List Point). AreSeen c.args.store.now.trees ps) (sym c.in_ok-add.ensures.ok)
    (see_next c.args.store.now.trees c.args.self.now.closure.graph c.node-node.result.head c.node-node.result.arguments.now c.is_empty.result c.shape_of-shape.result c.deref.result.now c.args.term
    c.is_empty.ensures c.shape_of-shape.ensures (c.deref.ensures.value ∙ c.in_ok-arguments_of.ensures) c.requires.next c.node-node.ensures.tree c.node-node.ensures.earlier c.requires.seen)
