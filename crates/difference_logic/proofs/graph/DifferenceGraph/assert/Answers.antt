use Rattle.std.proofs.Common.{◌≡◌, List, ◌∙◌, subst}
use Rattle.difference_logic.specs.declared.edge.Edge.{Edge}
use Rattle.difference_logic.specs.Edges.{AreTagsWith}
use Rattle.difference_logic.proofs.graph.DifferenceGraph.assert.Goals as goal

pub returns-in_ok-cycle_tags-in-Cycle-clause-ok : goal.returns-in_ok-cycle_tags-in-Cycle-clause-ok
returns-in_ok-cycle_tags-in-Cycle-clause-ok c =
    let same : c.self.inside.edges.items ≡ c.args.self.now = c.self.view_is ∙ c.know.ensures in
    (same, subst (λ (es : List Edge). AreTagsWith es c.args.edge c.in_ok-cycle_tags-in-Cycle.field-0.items) (c.deref-in-Cycle.ensures.value ∙ same) c.in_ok-cycle_tags-in-Cycle.ensures)
