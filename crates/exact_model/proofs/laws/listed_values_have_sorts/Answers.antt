use Rattle.exact_model.proofs.Meeting.{have_sorts}
use Rattle.exact_model.proofs.laws.listed_values_have_sorts.Goals as goal

pub returns : goal.returns
returns c = have_sorts
