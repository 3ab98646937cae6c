use Rattle.std.proofs.Common.{◌≡◌, ◌<◌, length, All}
use Rattle.scope_stack.proofs.copy.insert_all.Given as goal

abbrev pub invariant-loop-term : goal.invariant-loop-term
invariant-loop-term l = (length l.set.places.items ≡ length l.fn.set.places.items) × All (λ i. i < length l.fn.set.places.items) l.set.members.items
