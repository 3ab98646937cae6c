use Rattle.std.proofs.Common.{◌≡◌, length}
use Rattle.closure_log.proofs.choices.Choices.new.Given as goal

abbrev pub invariant-loop-place : goal.invariant-loop-place
invariant-loop-place l = record {
  newest : length l.newest.items ≡ length l.store.trees;
  before : length l.before.items ≡ length l.store.trees;
}
