use Rattle.smt_laws.proofs.Resolution.{resolvent}
use Rattle.smt_laws.proofs.clauses.resolvent_follows.Goals as goal

pub returns : goal.returns
returns c = resolvent
