use Rattle.std.proofs.Common.{◌≡◌, map, take}
use Rattle.congruence.specs.Reasons.{reason_at}
use Rattle.congruence.proofs.reasons.put_reasons.Given as goal

abbrev pub invariant-loop-step : goal.invariant-loop-step
invariant-loop-step l = l.found.items ≡ map (reason_at l.reasons) (take l.step-index l.steps)
