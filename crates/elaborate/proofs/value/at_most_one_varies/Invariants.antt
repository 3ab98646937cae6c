use Rattle.std.proofs.Common.{◌≡◌, drop}
use Rattle.elaborate.specs.Values.{one_varies}
use Rattle.elaborate.proofs.value.at_most_one_varies.Given as goal

abbrev pub invariant-loop-place : goal.invariant-loop-place
invariant-loop-place l = one_varies l.values ≡ one_varies (drop l.place l.values)
