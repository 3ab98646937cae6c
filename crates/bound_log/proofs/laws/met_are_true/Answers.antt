use Rattle.bound_log.proofs.Wholes.{met_true}
use Rattle.bound_log.proofs.laws.met_are_true.Goals as goal

pub returns : goal.returns
returns c = met_true
