use Rattle.std.proofs.Common.{◌≡◌, ◌++◌, drop}
use Rattle.exact_model.specs.Places.{marked_from, marked_places}
use Rattle.exact_model.proofs.values.marked_places.Given as goal

abbrev pub invariant-loop-place : goal.invariant-loop-place
invariant-loop-place l = l.places.items ++ marked_from l.place (drop l.place l.marks) ≡ marked_places l.marks
