use Rattle.std.proofs.Common.{◌≡◌, ◌∷◌, map, take}
use Rattle.conflict_learn.specs.Analysing.{falsified}
use Rattle.conflict_learn.proofs.kept.write_literals.Given as goal

abbrev pub invariant-loop-place : goal.invariant-loop-place
invariant-loop-place l = l.literals.items ≡ map (falsified l.store.trail.steps) (l.first ∷ take l.place-index l.kept)
