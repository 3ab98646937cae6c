use Rattle.smt_laws.proofs.FreshLaw.{no_id_twice}
use Rattle.smt_laws.proofs.terms.no_id_twice.Goals as goal

pub returns : goal.returns
returns c = no_id_twice
