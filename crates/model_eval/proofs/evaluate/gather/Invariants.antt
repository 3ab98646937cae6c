use Rattle.std.proofs.Common.{◌≡◌, ◌++◌, drop, map}
use Rattle.model_eval.specs.Walk.{value_at}
use Rattle.model_eval.proofs.evaluate.gather.Given as goal

abbrev pub invariant-loop-place : goal.invariant-loop-place
invariant-loop-place l = l.arguments.items ++ map (value_at l.slots l.values) (drop l.place-index l.places) ≡ map (value_at l.slots l.values) l.places
