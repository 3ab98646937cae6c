use Rattle.equality_clauses.proofs.Tying.{sameness_tied}
use Rattle.equality_clauses.proofs.laws.sameness_is_tied.Goals as goal

pub returns : goal.returns
returns c = sameness_tied
