use Rattle.bound_log.proofs.Taken as Taken
use Rattle.bound_log.proofs.laws.values_stay.Goals as goal

pub returns : goal.returns
returns c = Taken.values_stay
