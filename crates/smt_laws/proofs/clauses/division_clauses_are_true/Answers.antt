use Rattle.smt_laws.proofs.DivisionLaw.{clauses_true}
use Rattle.smt_laws.proofs.clauses.division_clauses_are_true.Goals as goal

pub returns : goal.returns
returns c = clauses_true
