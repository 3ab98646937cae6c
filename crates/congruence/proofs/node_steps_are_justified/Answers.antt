use Rattle.congruence.proofs.Justifying.{node_justified}
use Rattle.congruence.proofs.node_steps_are_justified.Goals as goal

pub returns : goal.returns
returns c = node_justified
