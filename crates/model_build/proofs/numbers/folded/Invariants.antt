use Rattle.std.proofs.Common.{◌≡◌, map, drop}
use Rattle.model_build.specs.Given.{given_at}
use Rattle.model_build.specs.WorkedOut.{folded}
use Rattle.model_build.proofs.numbers.folded.Given as goal

abbrev pub invariant-loop-place : goal.invariant-loop-place
invariant-loop-place l = folded l.operator l.value (map (given_at l.given) (drop l.place-index l.others)) ≡ folded l.operator l.fn.first (map (given_at l.given) l.others)
