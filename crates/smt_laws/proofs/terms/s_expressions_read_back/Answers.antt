use Rattle.smt_laws.proofs.SExprLaw.{read_back}
use Rattle.smt_laws.proofs.terms.s_expressions_read_back.Goals as goal

pub returns : goal.returns
returns c = read_back
