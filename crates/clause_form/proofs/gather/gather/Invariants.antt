use Rattle.std.proofs.Common.{◌≡◌, ◌≤◌, false, drop, length, reverse}
use Rattle.clause_form.specs.Signs.{once, clashes}
use Rattle.clause_form.specs.Plain.{signs, IsPlaced}
use Rattle.clause_form.proofs.gather.gather.Given as goal

abbrev pub invariant-loop-i : goal.invariant-loop-i
invariant-loop-i l = record {
  within : l.i ≤ length l.literals;
  placed : IsPlaced l.places.items l.kept.items;
  kept : signs l.kept.items ≡ reverse (once (signs (drop l.i l.literals)));
  clear : clashes (signs (drop l.i l.literals)) ≡ false;
}

abbrev pub decreases-loop-i : goal.decreases-loop-i
decreases-loop-i l = l.i
