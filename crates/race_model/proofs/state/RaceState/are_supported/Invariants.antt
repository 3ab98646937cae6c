use Rattle.std.proofs.Common.{◌≤◌, ◌<◌, ◌-◌, ℕ, length}
use Rattle.std.specs.Prelude.{slice_index_or}
use Rattle.race_model.specs.declared.event.Premise.{Premise}
use Rattle.race_model.specs.Race.{Supports, state_of}
use Rattle.race_model.proofs.state.RaceState.are_supported.Given as goal

abbrev pub invariant-loop-i : goal.invariant-loop-i
invariant-loop-i l = record {
  within : l.i ≤ length l.premises;
  supported : (k : ℕ) (d : Premise) → k < l.i → Supports (state_of l.self) l.worker l.level (slice_index_or l.premises k d);
}

abbrev pub decreases-loop-i : goal.decreases-loop-i
decreases-loop-i l = length l.premises - l.i
