use Rattle.smt_laws.proofs.EnvironmentLaw.{tree_has}
use Rattle.smt_laws.proofs.terms.tree_has_the_terms_value.Goals as goal

pub returns : goal.returns
returns c = tree_has
