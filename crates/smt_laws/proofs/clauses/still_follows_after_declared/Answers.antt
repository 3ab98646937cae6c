use Rattle.smt_laws.proofs.FollowsLaw.{after_declared}
use Rattle.smt_laws.proofs.clauses.still_follows_after_declared.Goals as goal

pub returns : goal.returns
returns c = after_declared
