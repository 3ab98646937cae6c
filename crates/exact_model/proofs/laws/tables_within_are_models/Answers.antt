use Rattle.exact_model.proofs.Ending.{within_are_models}
use Rattle.exact_model.proofs.laws.tables_within_are_models.Goals as goal

pub returns : goal.returns
returns c = within_are_models c.flat_says_the_same.ensures
