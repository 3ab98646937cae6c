use Rattle.std.proofs.Common.{◌≡◌, ◌≤◌, length, drop}
use Rattle.elaborate.specs.Parts.{visits_of}
use Rattle.elaborate.proofs.parts.push_visits.Given as goal

abbrev pub invariant-loop-left : goal.invariant-loop-left
invariant-loop-left l = (l.left ≤ length l.terms) × (l.jobs ≡ visits_of (drop l.left l.terms) l.fn.jobs)

abbrev pub decreases-loop-left : goal.decreases-loop-left
decreases-loop-left l = l.left
