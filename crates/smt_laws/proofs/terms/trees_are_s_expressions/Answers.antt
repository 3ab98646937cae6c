use Rattle.smt_laws.proofs.SExprLaw.{are_sexprs}
use Rattle.smt_laws.proofs.terms.trees_are_s_expressions.Goals as goal

pub returns : goal.returns
returns c = are_sexprs
