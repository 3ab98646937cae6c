use Rattle.smt_laws.proofs.Tables.{tables_interpret}
use Rattle.smt_laws.proofs.terms.tables_interpret.Goals as goal

pub returns : goal.returns
returns c = tables_interpret
