use Rattle.bound_log.proofs.KeptVariables.{sums_apart}
use Rattle.bound_log.proofs.laws.sums_are_apart.Goals as goal

pub returns : goal.returns
returns c = sums_apart
