use Rattle.std.proofs.Common.{◌≡◌, ◌+◌, ◌-◌, ◌≤◌, ◌++◌, replicate}
use Rattle.std.specs.Prelude.{vec_len, vec_capacity}
use Rattle.scope_stack.proofs.asserted.extend.Given as goal

abbrev pub invariant-loop : goal.invariant-loop
invariant-loop l = (l.starts.items ≡ l.fn.starts.items ++ replicate l.counter l.start) × (vec_len l.starts + (l.count - l.counter) ≤ vec_capacity l.starts)
