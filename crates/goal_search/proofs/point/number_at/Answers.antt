use Rattle.std.proofs.Common.{refl}
use Rattle.goal_search.proofs.Above.{at_from}
use Rattle.goal_search.proofs.point.number_at.Goals as goal

pub returns : goal.returns
returns c = at_from c.args.above _ c.saturating_add_unsigned.result c.requires refl c.saturating_add_unsigned.ensures
