use Rattle.report_laws.proofs.UnderBounds as UnderBounds
use Rattle.report_laws.proofs.pivots_under_bounds_are_few.Goals as goal

pub returns : goal.returns
returns c = UnderBounds.pivots_under_bounds
