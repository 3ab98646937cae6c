use Rattle.search_port.proofs.Forcing.{in_turn}
use Rattle.search_port.proofs.forces_in_turn.Goals as goal

pub returns : goal.returns
returns c = in_turn
