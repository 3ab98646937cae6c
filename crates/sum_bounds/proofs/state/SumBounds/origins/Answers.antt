use Rattle.std.proofs.Common.{subst}
use Rattle.sum_bounds.specs.Origins.{IsOfTold}
use Rattle.sum_bounds.proofs.Origins.{of_told}
use Rattle.sum_bounds.proofs.state.SumBounds.origins.Goals as goal

pub returns : goal.returns
returns c = subst IsOfTold c.self.view_is (of_told c.self.inside.simplex c.facts.ensures)
