use Rattle.std.proofs.Common.{◌≡◌, length, take}
use Rattle.point_closure.proofs.join.part_to.Given as goal

abbrev pub invariant-unions : goal.invariant-unions
invariant-unions l = record {
  weights : length l.weights.items ≡ length l.fn.weights.items;
  count : l.classes.count ≡ l.fn.classes.count;
  left : take l.unions l.classes.unions ≡ take l.unions l.fn.classes.unions;
}

abbrev pub decreases-unions : goal.decreases-unions
decreases-unions l = length l.classes.unions
