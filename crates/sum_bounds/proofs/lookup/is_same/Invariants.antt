use Rattle.std.proofs.Common.{◌≡◌, ℕ, ◌<◌, get_or}
use Rattle.fraction128.specs.declared.Summand.{Summand}
use Rattle.sum_bounds.proofs.lookup.is_same.Given as goal

abbrev pub invariant-loop-place : goal.invariant-loop-place
invariant-loop-place l = (k : ℕ) (d : Summand) → k < l.place → get_or l.left k d ≡ get_or l.right k d
