use Rattle.bound_clauses.proofs.Implied.{axioms_over}
use Rattle.bound_clauses.proofs.laws.axioms_are_over.Goals as goal

pub returns : goal.returns
returns c = axioms_over
