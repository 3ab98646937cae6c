use Rattle.std.proofs.Common.{◌≡◌, length}
use Rattle.exact_model.specs.Exact.{AllGiven}
use Rattle.exact_model.proofs.given.give.Given as goal

abbrev pub invariant-loop-place : goal.invariant-loop-place
invariant-loop-place l = record {
  count : length l.given.items ≡ l.place;
  each : AllGiven l.listed.store.now.trees l.marks l.listed.values.now l.place l.given.items;
}
