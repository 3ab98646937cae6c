use Rattle.std.proofs.Common.{◌≡◌, ◌≤◌, ◌++◌, take, drop}
use Rattle.smt_sorts.proofs.entries.remove.Given as goal

abbrev pub invariant-loop-place : goal.invariant-loop-place
invariant-loop-place g l = record {
  from_below : l.from ≤ l.place;
  to_above : l.place ≤ l.to;
  items : l.items.items ≡ take l.place l.fn.items.items ++ drop l.to l.fn.items.items;
}

abbrev pub decreases-loop-place : goal.decreases-loop-place
decreases-loop-place g l = l.place
