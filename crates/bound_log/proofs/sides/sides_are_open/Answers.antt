use Rattle.bound_log.proofs.Opening.{sides_open}
use Rattle.bound_log.proofs.sides.sides_are_open.Goals as goal

pub returns : goal.returns
returns c = sides_open c.bounds_are_told.ensures c.args.leaf.now c.denominator-denominator.ensures.lowest
