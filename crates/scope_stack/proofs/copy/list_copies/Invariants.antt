use Rattle.std.proofs.Common.{◌≡◌, ◌<◌, take, map, All, slice_index}
use Rattle.scope_stack.proofs.copy.list_copies.Given as goal

abbrev pub invariant-loop-argument : goal.invariant-loop-argument
invariant-loop-argument l = (map (slice_index l.needed.members.items) l.copies.items ≡ take l.argument-index l.arguments) × All (λ i. i < l.count) l.copies.items
