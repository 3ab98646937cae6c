use Rattle.std.proofs.Common.{◌≡◌, ◌-◌, length}
use Rattle.conflict_learn.proofs.Split.{Shrinking}
use Rattle.conflict_learn.proofs.analysis.Analysis.shrink.Given as goal

abbrev pub invariant-loop-j : goal.invariant-loop-j
invariant-loop-j l = record {
  same : l.store ≡ l.fn.store;
  shrinking : Shrinking l.fn.store.clauses l.fn.store.trail.steps l._id l._uip l.fn.self l.self l.j l.kept.items;
  flags : length l.flags ≡ length l.fn.store.trail.steps;
}

abbrev pub decreases-loop-j : goal.decreases-loop-j
decreases-loop-j l = length l.fn.store.trail.steps - l.j
