use Rattle.std.proofs.Common.{pos, refl}
use Rattle.sum_bounds.proofs.progression.Progression.zero.Goals as goal

pub returns : goal.returns
returns c = (pos 0, refl)
