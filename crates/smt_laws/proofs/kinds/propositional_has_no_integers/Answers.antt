use Rattle.smt_laws.proofs.KindLaw.{propositional_without}
use Rattle.smt_laws.proofs.kinds.propositional_has_no_integers.Goals as goal

pub returns : goal.returns
returns c = propositional_without
