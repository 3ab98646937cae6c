use Rattle.std.proofs.Common.{◌≡◌, length}
use Rattle.conflict_learn.proofs.minimize.+all_follow.Given as goal

abbrev pub decreases-all_follow : goal.decreases-all_follow
decreases-all_follow l = l.fuel

abbrev pub invariant-loop-k : goal.invariant-loop-k
invariant-loop-k l = record {
  same : l.store ≡ l.fn.store;
  flags : length l.flags ≡ length l.fn.flags;
}
