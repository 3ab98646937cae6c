use Rattle.bound_clauses.proofs.Implied.{axioms_true}
use Rattle.bound_clauses.proofs.laws.axioms_are_true.Goals as goal

pub returns : goal.returns
returns c = axioms_true
