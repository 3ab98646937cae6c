use Rattle.exact_model.proofs.Meeting.{fit_truths}
use Rattle.exact_model.proofs.laws.listed_truths_fit.Goals as goal

pub returns : goal.returns
returns c = fit_truths
