use Rattle.congruence.proofs.Justifying.{sameness_justified}
use Rattle.congruence.proofs.sameness_is_justified.Goals as goal

pub returns : goal.returns
returns c = sameness_justified
