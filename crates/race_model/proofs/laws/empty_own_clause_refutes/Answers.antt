use Rattle.race_model.proofs.Sound.{empty_refutes}
use Rattle.race_model.proofs.laws.empty_own_clause_refutes.Goals as goal

pub returns : goal.returns
returns c = empty_refutes c.empty_clause_shows_no_model.ensures
