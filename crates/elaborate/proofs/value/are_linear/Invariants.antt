use Rattle.std.proofs.Common.{◌≡◌, drop}
use Rattle.elaborate.specs.Values.{all_linear}
use Rattle.elaborate.proofs.value.are_linear.Given as goal

abbrev pub invariant-loop-value : goal.invariant-loop-value
invariant-loop-value l = all_linear l.values ≡ all_linear (drop l.value-index l.values)
