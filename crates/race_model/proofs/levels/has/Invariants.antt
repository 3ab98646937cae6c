use Rattle.std.proofs.Common.{◌≡◌, length}
use Rattle.race_model.specs.Race.{has_id}
use Rattle.race_model.proofs.levels.has.Given as goal

abbrev pub invariant-loop-first : goal.invariant-loop-first
invariant-loop-first l = has_id l.id l.declared ≡ has_id l.id l.rest

abbrev pub decreases-loop-first : goal.decreases-loop-first
decreases-loop-first l = length l.rest
