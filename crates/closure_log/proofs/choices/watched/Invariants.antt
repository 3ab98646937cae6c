use Rattle.std.proofs.Common.{◌≡◌, length}
use Rattle.closure_log.proofs.choices.watched.Given as goal

abbrev pub invariant-loop-place : goal.invariant-loop-place
invariant-loop-place l = length l.watched.items ≡ length l.store.trees
