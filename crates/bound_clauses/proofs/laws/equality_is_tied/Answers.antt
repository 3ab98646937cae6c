use Rattle.bound_clauses.proofs.Comparing.{equality_tied}
use Rattle.bound_clauses.proofs.laws.equality_is_tied.Goals as goal

pub returns : goal.returns
returns c = equality_tied
