use Rattle.first_clauses.proofs.Deciding.{none_left}
use Rattle.first_clauses.proofs.laws.empty_clause_means_no_model.Goals as goal

pub returns : goal.returns
returns c = none_left c.flat_says_the_same.ensures
