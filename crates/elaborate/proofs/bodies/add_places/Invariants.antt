use Rattle.std.proofs.Common.{◌≡◌}
use Rattle.smt_sorts.specs.Workshop.{places_from}
use Rattle.elaborate.proofs.bodies.add_places.Given as goal

abbrev pub invariant-loop-place : goal.invariant-loop-place
invariant-loop-place l = l.store.trees ≡ places_from 0 l.place
