use Rattle.exact_model.proofs.Meeting.{bounds_met}
use Rattle.exact_model.proofs.laws.listed_bounds_are_met.Goals as goal

pub returns : goal.returns
returns c = bounds_met c.flat_says_the_same.ensures c.wholes_hold.ensures
