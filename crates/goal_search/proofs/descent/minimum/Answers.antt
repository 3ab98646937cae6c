use Rattle.std.proofs.Common.{ap}
use Rattle.goal_search.specs.declared.minimum.LeastValue.TheVariants.{Minimum}
use Rattle.goal_search.proofs.Above.{carried}
use Rattle.goal_search.proofs.descent.minimum.Goals as goal

pub returns : goal.returns
returns c = ap (λ k. Minimum k c.args.point.model) (carried c.args.point.above c.number_at.result c.requires c.number_at.ensures)
