use Rattle.std.proofs.Common.{◌≡◌, take, map, slice_index}
use Rattle.scope_stack.proofs.asserted.starts_by.Given as goal

abbrev pub invariant-loop-start : goal.invariant-loop-start
invariant-loop-start l = l.moved.items ≡ map (slice_index l.counts) (take l.start-index l.starts)
