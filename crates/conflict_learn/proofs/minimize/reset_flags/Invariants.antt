use Rattle.std.proofs.Common.{◌≤◌, ◌-◌, length}
use Rattle.conflict_learn.proofs.minimize.reset_flags.Given as goal

abbrev pub invariant-loop-flags : goal.invariant-loop-flags
invariant-loop-flags l = length l.flags.items ≤ l.count

abbrev pub decreases-loop-flags : goal.decreases-loop-flags
decreases-loop-flags l = l.count - length l.flags.items
