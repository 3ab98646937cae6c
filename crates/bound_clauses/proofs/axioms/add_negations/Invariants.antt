use Rattle.std.proofs.Common.{◌≡◌, ◌≤◌, ◌++◌, take, length}
use Rattle.bound_clauses.specs.Chain.{of_negations}
use Rattle.bound_clauses.proofs.axioms.add_negations.Given as goal

abbrev pub invariant-loop-i : goal.invariant-loop-i
invariant-loop-i l = record { within : l.i ≤ length l.bounds; rest : (l.links.items ++ of_negations (take l.i l.bounds)) ≡ (l.fn.links.items ++ of_negations l.bounds) }

abbrev pub decreases-loop-i : goal.decreases-loop-i
decreases-loop-i l = l.i
