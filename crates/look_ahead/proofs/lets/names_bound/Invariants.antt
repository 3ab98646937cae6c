use Rattle.std.proofs.Common.{◌≡◌, ◌-◌, length}
use Rattle.smt_meaning.specs.Sorts.{bound_names}
use Rattle.look_ahead.specs.Ahead.{ahead}
use Rattle.look_ahead.specs.Lets.{names_of, and_names}
use Rattle.look_ahead.proofs.lets.names_bound.Given as goal

abbrev pub invariant-loop-at : goal.invariant-loop-at
invariant-loop-at l = bound_names (ahead l.term l.place) ≡ and_names (names_of l.names.items) (bound_names (ahead l.term l.at))

abbrev pub decreases-loop-at : goal.decreases-loop-at
decreases-loop-at l = length l.term - l.at
