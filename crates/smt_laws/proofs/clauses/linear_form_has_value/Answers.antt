use Rattle.smt_laws.proofs.LinearLaw.{has_value}
use Rattle.smt_laws.proofs.clauses.linear_form_has_value.Goals as goal

pub returns : goal.returns
returns c = has_value
