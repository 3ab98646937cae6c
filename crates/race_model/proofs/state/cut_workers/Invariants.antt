use Rattle.std.proofs.Common.{◌≡◌, ◌≤◌, ◌-◌, ◌++◌, length, take, drop, map}
use Rattle.race_model.specs.Race.{cut_worker}
use Rattle.race_model.proofs.state.cut_workers.Given as goal

abbrev pub invariant-loop-i : goal.invariant-loop-i
invariant-loop-i l = record {
  within : l.i ≤ length l.workers;
  done : l.workers ≡ map (cut_worker l.count l.entries) (take l.i l.initial.workers) ++ drop l.i l.initial.workers;
}

abbrev pub decreases-loop-i : goal.decreases-loop-i
decreases-loop-i l = length l.workers - l.i
