use Rattle.std.proofs.Common.{◌≡◌, map, take}
use Rattle.sum_bounds.specs.Written.{turned_summand}
use Rattle.sum_bounds.proofs.writing.turned_sum.Given as goal

abbrev pub invariant-loop-summand : goal.invariant-loop-summand
invariant-loop-summand l = l.copy ≡ map (turned_summand l.turned) (take l.summand-index l.sum)
