use Rattle.std.proofs.Common.{◌≡◌, ◌≤◌, ◌-◌, length, false}
use Rattle.smt_meaning.specs.Sorts.{are_attributes_from}
use Rattle.look_ahead.specs.Ahead.{ahead}
use Rattle.look_ahead.proofs.parts.may_follow.Given as goal

abbrev pub invariant-loop-at : goal.invariant-loop-at
invariant-loop-at l = (l.at ≤ length l.term) × (are_attributes_from false (ahead l.term l.place) ≡ are_attributes_from l.may (ahead l.term l.at))

abbrev pub decreases-loop-at : goal.decreases-loop-at
decreases-loop-at l = length l.term - l.at
