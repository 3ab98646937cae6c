use Rattle.std.proofs.Common.{◌≡◌, length}
use Rattle.scope_stack.proofs.term_set.set_places.Given as goal

abbrev pub invariant-loop-place : goal.invariant-loop-place
invariant-loop-place l = length l.places ≡ length l.fn.places
