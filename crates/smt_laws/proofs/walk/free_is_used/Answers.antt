use Rattle.smt_laws.proofs.UseLemmas.{free_is_used}
use Rattle.smt_laws.proofs.walk.free_is_used.Goals as goal

pub returns : goal.returns
returns c = free_is_used
