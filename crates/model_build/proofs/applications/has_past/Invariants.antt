use Rattle.std.proofs.Common.{◌≡◌, map, drop}
use Rattle.model_build.specs.Given.{given_at, has_past}
use Rattle.model_build.proofs.applications.has_past.Given as goal

abbrev pub invariant-loop-place : goal.invariant-loop-place
invariant-loop-place l = has_past (map (given_at l.given) (drop l.place-index l.places)) ≡ has_past (map (given_at l.given) l.places)
