use Rattle.search_port.proofs.Forcing.{by_numbers}
use Rattle.search_port.proofs.forces_by_numbers.Goals as goal

pub returns : goal.returns
returns c = by_numbers
