use Rattle.pair_bounds.proofs.LargeDivisors.{large_divisor}
use Rattle.pair_bounds.proofs.rows.large_divisor_leaves_range.Goals as goal

pub returns : goal.returns
returns c = large_divisor
