use Rattle.std.proofs.Common.{◌≡◌, ◌<◌, length, All}
use Rattle.scope_stack.proofs.copy.insert_arguments.Given as goal

abbrev pub invariant-loop-next : goal.invariant-loop-next
invariant-loop-next l = (length l.set.places.items ≡ length l.terms.trees) × All (λ i. i < length l.terms.trees) l.set.members.items
