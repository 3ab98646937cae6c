use Rattle.std.proofs.Common.{◌≡◌, length, take}
use Rattle.point_closure.specs.Lists.{AreLists}
use Rattle.point_closure.proofs.lists.Lists.undo_to.Given as goal

abbrev pub invariant-changes : goal.invariant-changes
invariant-changes l = record {
  lists : AreLists l.self-inside.lists.items l.self-inside.changes.items;
  count : length l.self-inside.lists.items ≡ l.fn.self.count;
  left : take l.count l.self-inside.changes.items ≡ take l.count l.fn.self.changes;
}

abbrev pub decreases-changes : goal.decreases-changes
decreases-changes l = length l.self-inside.changes.items
