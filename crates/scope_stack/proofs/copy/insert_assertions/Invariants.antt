use Rattle.std.proofs.Common.{◌≡◌, ◌<◌, length, All}
use Rattle.scope_stack.proofs.copy.insert_assertions.Given as goal

abbrev pub invariant-loop-assertion : goal.invariant-loop-assertion
invariant-loop-assertion l = (length l.set.places.items ≡ length l.fn.set.places.items) × All (λ i. i < length l.fn.set.places.items) l.set.members.items
