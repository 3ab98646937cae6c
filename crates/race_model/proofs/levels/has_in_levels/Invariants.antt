use Rattle.std.proofs.Common.{◌≡◌, length}
use Rattle.race_model.specs.Base.{declared_in}
use Rattle.race_model.specs.Race.{has_id}
use Rattle.race_model.proofs.levels.has_in_levels.Given as goal

abbrev pub invariant-loop-first : goal.invariant-loop-first
invariant-loop-first l = has_id l.id (declared_in l.levels) ≡ has_id l.id (declared_in l.rest)

abbrev pub decreases-loop-first : goal.decreases-loop-first
decreases-loop-first l = length l.rest
