use Rattle.bound_clauses.proofs.Reached.{axioms_forced}
use Rattle.bound_clauses.proofs.laws.axioms_force_all.Goals as goal

pub returns : goal.returns
returns c = axioms_forced
