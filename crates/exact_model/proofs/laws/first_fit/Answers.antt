use Rattle.exact_model.proofs.Meeting.{fit_first}
use Rattle.exact_model.proofs.laws.first_fit.Goals as goal

pub returns : goal.returns
returns c = fit_first
