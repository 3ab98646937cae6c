use Rattle.smt_laws.proofs.ValueLaw.{value-agree}
use Rattle.smt_laws.proofs.terms.value_depends_on_symbols.Goals as goal

pub returns : goal.returns
returns c = value-agree
