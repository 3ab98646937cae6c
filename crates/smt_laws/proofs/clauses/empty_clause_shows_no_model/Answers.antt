use Rattle.smt_laws.proofs.Resolution.{empty_shows}
use Rattle.smt_laws.proofs.clauses.empty_clause_shows_no_model.Goals as goal

pub returns : goal.returns
returns c = empty_shows
