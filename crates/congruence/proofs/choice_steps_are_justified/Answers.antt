use Rattle.congruence.proofs.Justifying.{choice_justified}
use Rattle.congruence.proofs.choice_steps_are_justified.Goals as goal

pub returns : goal.returns
returns c = choice_justified
