use Rattle.first_clauses.proofs.Forcing.{more_forced}
use Rattle.first_clauses.proofs.laws.more_force_parts.Goals as goal

pub returns : goal.returns
returns c = more_forced
