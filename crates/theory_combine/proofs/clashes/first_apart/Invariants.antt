use Rattle.std.proofs.Common.{ℕ, ◌<◌}
use Rattle.std.specs.Prelude.{slice_index_or}
use Rattle.closure_log.specs.Whole.{AreInOneClass}
use Rattle.theory_combine.proofs.clashes.first_apart.Given as goal

abbrev pub invariant-loop-k : goal.invariant-loop-k
invariant-loop-k l = (j : ℕ) → j < l.k → AreInOneClass l.closure (slice_index_or l.left j 0) (slice_index_or l.right j 0)
