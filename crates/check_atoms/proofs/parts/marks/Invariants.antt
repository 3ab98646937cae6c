use Rattle.std.proofs.Common.{◌≤◌, length}
use Rattle.check_atoms.specs.Marks.{AreMarked}
use Rattle.check_atoms.proofs.parts.marks.Given as goal

abbrev pub invariant-loop-id : goal.invariant-loop-id
invariant-loop-id l = record {
  within : l.id ≤ length l.stack.trees;
  marked : AreMarked l.stack l.assertions l.id l.marks.items;
}

abbrev pub decreases-loop-id : goal.decreases-loop-id
decreases-loop-id l = l.id
