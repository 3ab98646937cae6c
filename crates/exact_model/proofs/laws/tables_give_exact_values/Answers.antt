use Rattle.exact_model.proofs.Giving.{tables_give}
use Rattle.exact_model.proofs.laws.tables_give_exact_values.Goals as goal

pub returns : goal.returns
returns c = tables_give
