use Rattle.std.proofs.Common.{◌+◌}
use Rattle.point_closure.specs.Explaining.{IsExplaining}
use Rattle.point_closure.proofs.GoalLemmas.{total, widest}
use Rattle.point_closure.proofs.explain.Explainer.explain.Given as goal

abbrev pub invariant-goals : goal.invariant-goals
invariant-goals l = IsExplaining l.graph l.classes.unions l.left l.right l.self.goals.items l.self.told l.self.steps.items

abbrev pub decreases-goals : goal.decreases-goals
decreases-goals l = total (widest l.graph + 2) l.classes.unions l.self.goals.items
