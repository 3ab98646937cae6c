use Rattle.std.proofs.Common.{◌≡◌, map, drop}
use Rattle.model_build.specs.Given.{given_at}
use Rattle.model_build.specs.Keys.{givens_state}
use Rattle.model_build.proofs.hash.with_each.Given as goal

abbrev pub invariant-loop-place : goal.invariant-loop-place
invariant-loop-place l = givens_state l.state (map (given_at l.given) (drop l.place-index l.places)) ≡ givens_state l.start (map (given_at l.given) l.places)
