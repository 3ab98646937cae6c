use Rattle.bound_clauses.proofs.Decided.{equality_decided}
use Rattle.bound_clauses.proofs.laws.equality_is_decided.Goals as goal

pub returns : goal.returns
returns c = equality_decided
