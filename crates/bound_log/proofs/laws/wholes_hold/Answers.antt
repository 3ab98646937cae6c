use Rattle.bound_log.proofs.Wholes as Wholes
use Rattle.bound_log.proofs.laws.wholes_hold.Goals as goal

pub returns : goal.returns
returns c = Wholes.wholes_hold c.wholes_meet.ensures
