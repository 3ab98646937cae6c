use Rattle.equality_clauses.proofs.Tying.{comparison_tied}
use Rattle.equality_clauses.proofs.laws.comparison_is_tied.Goals as goal

pub returns : goal.returns
returns c = comparison_tied
