use Rattle.bound_log.proofs.Wholes.{bounds_told}
use Rattle.bound_log.proofs.laws.bounds_are_told.Goals as goal

pub returns : goal.returns
returns c = bounds_told
