use Rattle.cdcl_core.specs.Turns.{IsTidied}
use Rattle.cdcl_core.proofs.forget.forget_long.Given as goal

abbrev pub invariant-loop-id : goal.invariant-loop-id
invariant-loop-id l = IsTidied l.forgetting l.initial.store l.store
