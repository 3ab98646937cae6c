use Rattle.smt_laws.proofs.TodoLemmas.{stored_stay}
use Rattle.smt_laws.proofs.walk.stored_trees_stay.Goals as goal

pub returns : goal.returns
returns c = stored_stay
