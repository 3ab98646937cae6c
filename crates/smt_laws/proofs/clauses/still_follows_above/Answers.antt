use Rattle.smt_laws.proofs.FollowsLaw.{above}
use Rattle.smt_laws.proofs.clauses.still_follows_above.Goals as goal

pub returns : goal.returns
returns c = above
