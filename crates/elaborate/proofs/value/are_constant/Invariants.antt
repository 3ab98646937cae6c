use Rattle.std.proofs.Common.{◌≡◌, drop}
use Rattle.elaborate.specs.Values.{all_constant}
use Rattle.elaborate.proofs.value.are_constant.Given as goal

abbrev pub invariant-loop-value : goal.invariant-loop-value
invariant-loop-value l = all_constant l.values ≡ all_constant (drop l.value-index l.values)
