use Rattle.equality_clauses.proofs.Tying.{choice_tied}
use Rattle.equality_clauses.proofs.laws.choice_is_tied.Goals as goal

pub returns : goal.returns
returns c = choice_tied
