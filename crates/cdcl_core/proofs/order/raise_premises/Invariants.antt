use Rattle.std.proofs.Common.{◌≡◌}
use Rattle.cdcl_core.proofs.order.raise_premises.Given as goal

abbrev pub invariant-loop-id : goal.invariant-loop-id
invariant-loop-id l = l.store ≡ l.initial.store
