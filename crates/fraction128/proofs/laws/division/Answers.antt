use Rattle.fraction128.proofs.Divisions.{divides, only, bounds}
use Rattle.fraction128.proofs.laws.division.Goals as goal

pub returns-clause-is : goal.returns-clause-is
returns-clause-is c = divides

pub returns-clause-only : goal.returns-clause-only
returns-clause-only c = only

pub returns-clause-bounds : goal.returns-clause-bounds
returns-clause-bounds c = bounds
