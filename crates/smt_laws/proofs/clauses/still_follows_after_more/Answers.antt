use Rattle.smt_laws.proofs.FollowsLaw.{after_more}
use Rattle.smt_laws.proofs.clauses.still_follows_after_more.Goals as goal

pub returns : goal.returns
returns c = after_more
