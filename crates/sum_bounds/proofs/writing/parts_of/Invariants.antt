use Rattle.std.proofs.Common.{◌≡◌, map, take}
use Rattle.sum_bounds.specs.Written.{part_in}
use Rattle.sum_bounds.proofs.writing.parts_of.Given as goal

abbrev pub invariant-loop-summand : goal.invariant-loop-summand
invariant-loop-summand l = l.parts.items ≡ map (part_in l.simplex.columns) (take l.summand-index l.sum)
