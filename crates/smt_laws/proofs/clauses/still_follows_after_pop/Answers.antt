use Rattle.smt_laws.proofs.FollowsLaw.{after_pop}
use Rattle.smt_laws.proofs.clauses.still_follows_after_pop.Goals as goal

pub returns : goal.returns
returns c = after_pop
