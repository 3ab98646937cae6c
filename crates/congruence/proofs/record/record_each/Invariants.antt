use Rattle.std.proofs.Common.{◌≡◌, ◌++◌, take, replicate}
use Rattle.congruence.specs.Recorded.{IsRecorded}
use Rattle.congruence.proofs.record.record_each.Given as goal

abbrev pub invariant-loop-i : goal.invariant-loop-i
invariant-loop-i l = record {
  recorded : IsRecorded l.congruence;
  graph : l.congruence.closure.graph ≡ l.initial.congruence.closure.graph;
  steps : l.congruence.closure.steps.items ≡ l.initial.congruence.closure.steps.items ++ take l.i l.steps;
  reasons : l.congruence.reasons.items ≡ l.initial.congruence.reasons.items ++ replicate l.i l.reason;
}
