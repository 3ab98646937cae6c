use Rattle.smt_laws.proofs.EnvironmentLaw.{body_has}
use Rattle.smt_laws.proofs.terms.body_has_the_terms_value.Goals as goal

pub returns : goal.returns
returns c = body_has
