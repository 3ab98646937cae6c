use Rattle.std.proofs.Common.{◌≡◌, ◌≤◌, length}
use Rattle.conflict_learn.specs.Analysing.{IsSound, IsGrounded, IsAt}
use Rattle.conflict_learn.proofs.analysis.Analysis.resolve_deepest.Given as goal

abbrev pub invariant-loop-i : goal.invariant-loop-i
invariant-loop-i l = record {
  same : l.store ≡ l.fn.store;
  sound : IsSound l.fn.store.clauses l.fn.store.trail.steps l.self;
  grounded : IsGrounded l.fn.store.clauses l.fn.store.trail.steps l._id l.self;
  at : IsAt l.fn.store.trail.steps l.self l.i;
  enough : l.left ≤ l.self.count;
  within : l.i ≤ length l.fn.store.trail.steps;
  deepest : l.self.deepest ≡ l.fn.self.deepest;
}

abbrev pub decreases-loop-i : goal.decreases-loop-i
decreases-loop-i l = l.i
