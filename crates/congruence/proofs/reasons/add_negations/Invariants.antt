use Rattle.std.proofs.Common.{◌≡◌, ◌++◌, map, take}
use Rattle.congruence.specs.Reasons.{negation_at}
use Rattle.congruence.proofs.reasons.add_negations.Given as goal

abbrev pub invariant-loop-step : goal.invariant-loop-step
invariant-loop-step l = l.clause.items ≡ l.fn.clause.items ++ map (negation_at l.reasons) (take l.step-index l.steps)
