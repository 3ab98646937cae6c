use Rattle.std.proofs.Common.{map}
use Rattle.sum_bounds.specs.Bounds.{told_of}
use Rattle.sum_bounds.proofs.SplitLaws.{first_copy}
use Rattle.sum_bounds.proofs.splits.copied.Goals as goal

pub loop-variable-init : goal.loop-variable-init
loop-variable-init c = first_copy c.args.simplex.now.columns (map told_of c.args.simplex.now.bounds) c.args.count c.in_ok-copy.copy c.requires c.in_ok-copy.ensures
