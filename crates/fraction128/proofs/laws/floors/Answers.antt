use Rattle.fraction128.proofs.RationalOrder.{floor_less, floor_more}
use Rattle.fraction128.proofs.laws.floors.Goals as goal

pub returns-clause-below : goal.returns-clause-below
returns-clause-below c = floor_less

pub returns-clause-above : goal.returns-clause-above
returns-clause-above c = floor_more
