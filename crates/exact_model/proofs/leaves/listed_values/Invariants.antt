use Rattle.std.proofs.Common.{◌≡◌, length}
use Rattle.exact_model.specs.Leaves.{AreListedBy}
use Rattle.exact_model.proofs.leaves.listed_values.Given as goal

abbrev pub invariant-loop-place : goal.invariant-loop-place
invariant-loop-place l = record { count : length l.listed.items ≡ l.place; each : AreListedBy l.stack l.marks l.bounds l.truths l.elements l.place l.listed.items }
