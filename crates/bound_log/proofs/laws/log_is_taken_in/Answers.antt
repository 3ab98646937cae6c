use Rattle.bound_log.proofs.Chained.{log_is_taken}
use Rattle.bound_log.proofs.laws.log_is_taken_in.Goals as goal

pub returns : goal.returns
returns c = log_is_taken
