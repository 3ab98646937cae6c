use Rattle.smt_laws.proofs.DivisionLaw.{rows_hold_of}
use Rattle.smt_laws.proofs.clauses.division_rows_hold.Goals as goal

pub returns : goal.returns
returns c = rows_hold_of
