use Rattle.smt_laws.proofs.DivisionLaw.{divisor_is}
use Rattle.smt_laws.proofs.clauses.divisor_is_its_number.Goals as goal

pub returns : goal.returns
returns c = divisor_is
