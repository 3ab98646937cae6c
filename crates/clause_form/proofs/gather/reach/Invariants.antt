use Rattle.std.proofs.Common.{◌-◌, ◌+◌, length}
use Rattle.clause_form.specs.Plain.{IsPlaced}
use Rattle.clause_form.proofs.gather.reach.Given as goal

abbrev pub invariant-loop-places : goal.invariant-loop-places
invariant-loop-places l = IsPlaced l.places.items l.kept

abbrev pub decreases-loop-places : goal.decreases-loop-places
decreases-loop-places l = l.atom + 1 - length l.places.items
