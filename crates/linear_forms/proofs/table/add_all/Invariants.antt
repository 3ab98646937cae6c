use Rattle.std.proofs.Common.{◌≡◌, ◌+◌, ◌≤◌, length, max}
use Rattle.linear_forms.specs.Entries.{IsCovering}
use Rattle.linear_forms.proofs.table.add_all.Given as goal

abbrev pub invariant-loop-place : goal.invariant-loop-place
invariant-loop-place g l = record {
  covering : IsCovering l.store.trees (length l.fn.entries.items) l.place l.entries.items l.all.items l.work;
  top : l.place ≤ max (length l.fn.entries.items) l.count;
  steps : l.steps + length l.fn.entries.items ≡ l.fn.steps + l.place;
}
