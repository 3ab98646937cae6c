use Rattle.smt_laws.proofs.TodoLemmas.{visits_parts}
use Rattle.smt_laws.proofs.walk.parts_are_visited.Goals as goal

pub returns : goal.returns
returns c = visits_parts
