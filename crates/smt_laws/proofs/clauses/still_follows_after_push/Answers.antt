use Rattle.smt_laws.proofs.FollowsLaw.{after_push}
use Rattle.smt_laws.proofs.clauses.still_follows_after_push.Goals as goal

pub returns : goal.returns
returns c = after_push
