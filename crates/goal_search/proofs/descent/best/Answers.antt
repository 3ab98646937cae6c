use Rattle.std.proofs.Common.{ap, Some}
use Rattle.goal_search.specs.declared.minimum.LeastValue.TheVariants.{Unknown}
use Rattle.goal_search.proofs.Above.{carried}
use Rattle.goal_search.proofs.descent.best.Goals as goal

pub returns : goal.returns
returns c = ap (λ k. Unknown (record { model = Some c.args.point.model; bound = Some k; reports = c.args.reports })) (carried c.args.bound c.number_at.result c.requires c.number_at.ensures)
