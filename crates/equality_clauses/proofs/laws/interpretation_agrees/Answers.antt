use Rattle.equality_clauses.proofs.Tying.{interpretation_agrees}
use Rattle.equality_clauses.proofs.laws.interpretation_agrees.Goals as goal

pub returns : goal.returns
returns c = interpretation_agrees
