use Rattle.std.proofs.Common.{◌≡◌, ◌++◌, map, drop}
use Rattle.model_build.specs.Given.{given_at}
use Rattle.model_build.specs.Filling.{value_of}
use Rattle.model_build.proofs.tables.values_of.Given as goal

abbrev pub invariant-loop-place : goal.invariant-loop-place
invariant-loop-place l = l.values.items ++ map value_of (map (given_at l.given) (drop l.place-index l.places)) ≡ map value_of (map (given_at l.given) l.places)
