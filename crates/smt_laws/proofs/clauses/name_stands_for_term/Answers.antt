use Rattle.smt_laws.proofs.ClauseLawsPartsLaw.{named_term}
use Rattle.smt_laws.proofs.clauses.name_stands_for_term.Goals as goal

pub returns : goal.returns
returns c = named_term
