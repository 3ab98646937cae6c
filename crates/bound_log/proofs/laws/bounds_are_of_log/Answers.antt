use Rattle.bound_log.proofs.Chained.{bounds_of_log}
use Rattle.bound_log.proofs.laws.bounds_are_of_log.Goals as goal

pub returns : goal.returns
returns c = bounds_of_log
