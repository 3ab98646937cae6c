use Rattle.std.proofs.Common.{◌≡◌}
use Rattle.cdcl_core.proofs.order.raise_reasons.Given as goal

abbrev pub invariant-loop-literal : goal.invariant-loop-literal
invariant-loop-literal l = l.store ≡ l.initial.store
