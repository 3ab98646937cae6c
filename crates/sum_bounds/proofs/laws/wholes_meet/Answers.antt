use Rattle.sum_bounds.proofs.ClauseLaws as Laws
use Rattle.sum_bounds.proofs.laws.wholes_meet.Goals as goal

pub returns : goal.returns
returns c = Laws.wholes_meet
