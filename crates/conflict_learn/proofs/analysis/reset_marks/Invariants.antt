use Rattle.std.proofs.Common.{◌≡◌, ◌≤◌, ◌-◌, length, replicate}
use Rattle.conflict_learn.specs.declared.analysis.Mark.TheVariants.{Unseen}
use Rattle.conflict_learn.proofs.analysis.reset_marks.Given as goal

abbrev pub invariant-loop-marks : goal.invariant-loop-marks
invariant-loop-marks l = record {
  unseen : l.marks.items ≡ replicate (length l.marks.items) Unseen;
  within : length l.marks.items ≤ l.count;
}

abbrev pub decreases-loop-marks : goal.decreases-loop-marks
decreases-loop-marks l = l.count - length l.marks.items
