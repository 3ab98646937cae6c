use Rattle.sum_bounds.proofs.ClauseLaws.{conflicts_valid}
use Rattle.sum_bounds.proofs.laws.conflicts_are_valid.Goals as goal

pub returns : goal.returns
returns c = conflicts_valid
