use Rattle.std.proofs.Common.{◌≡◌, ◌≤◌, ℕ, ◌-◌, List, vec_len, vec_capacity}
use Rattle.clause_store.specs.Trail.{Step}
use Rattle.clause_store.specs.TrailInvariant.{Agrees, IsPlaced}
use Rattle.clause_store.proofs.trail.open_up_to.Given as goal

abbrev pub invariant-loop-marks : goal.invariant-loop-marks
invariant-loop-marks l = record {
  few : vec_len l.marks ≤ l.atoms;
  even : vec_len l.places ≡ vec_len l.marks;
  marks : l.atoms ≤ vec_capacity l.marks;
  places : l.atoms ≤ vec_capacity l.places;
  agrees : (steps : List Step) (depth : ℕ) → Agrees steps l.initial.marks.items depth → Agrees steps l.marks.items depth;
  placed : (steps : List Step) (depth : ℕ) → Agrees steps l.initial.marks.items depth → IsPlaced steps l.initial.places.items (vec_len l.initial.marks) → IsPlaced steps l.places.items (vec_len l.marks);
}

abbrev pub decreases-loop-marks : goal.decreases-loop-marks
decreases-loop-marks l = l.atoms - vec_len l.marks
