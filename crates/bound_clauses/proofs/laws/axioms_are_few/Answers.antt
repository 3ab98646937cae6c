use Rattle.bound_clauses.proofs.Pairs.{axioms_few}
use Rattle.bound_clauses.proofs.laws.axioms_are_few.Goals as goal

pub returns : goal.returns
returns c = axioms_few
