use Rattle.std.proofs.Common.{◌≡◌, length}
use Rattle.race_model.specs.Base.{declared_in}
use Rattle.race_model.specs.Race.{are_new}
use Rattle.race_model.proofs.levels.each_is_new.Given as goal

abbrev pub invariant-loop-first : goal.invariant-loop-first
invariant-loop-first l = are_new (declared_in l.levels) l.others l.declared ≡ are_new (declared_in l.levels) l.others l.rest

abbrev pub decreases-loop-first : goal.decreases-loop-first
decreases-loop-first l = length l.rest
