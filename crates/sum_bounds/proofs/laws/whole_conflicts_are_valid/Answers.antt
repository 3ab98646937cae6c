use Rattle.sum_bounds.proofs.ClauseLaws.{whole_conflicts_valid}
use Rattle.sum_bounds.proofs.laws.whole_conflicts_are_valid.Goals as goal

pub returns : goal.returns
returns c = whole_conflicts_valid
