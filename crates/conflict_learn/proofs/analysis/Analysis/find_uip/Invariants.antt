use Rattle.std.proofs.Common.{◌≤◌}
use Rattle.conflict_learn.specs.Analysing.{IsAt}
use Rattle.conflict_learn.proofs.analysis.Analysis.find_uip.Given as goal

abbrev pub invariant-loop-i : goal.invariant-loop-i
invariant-loop-i l = record {
  at : IsAt l.store.trail.steps l.self l.i;
  within : l.i ≤ l.top;
}

abbrev pub decreases-loop-i : goal.decreases-loop-i
decreases-loop-i l = l.i
