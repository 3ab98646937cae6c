use Rattle.std.proofs.Common.{◌≡◌, ◌≤◌, length, ◌-◌, ℕ, ◌<◌}
use Rattle.std.specs.Prelude.{slice_index_or}
use Rattle.race_model.proofs.clause.are_same.Given as goal

abbrev pub invariant-loop-i : goal.invariant-loop-i
invariant-loop-i g l = record {
  within : l.i ≤ length l.one;
  lengths : length l.one ≡ length l.other;
  same : (k : ℕ) (d : g.row.T.Denot) → k < l.i → slice_index_or l.one k d ≡ slice_index_or l.other k d;
}

abbrev pub decreases-loop-i : goal.decreases-loop-i
decreases-loop-i g l = length l.one - l.i
