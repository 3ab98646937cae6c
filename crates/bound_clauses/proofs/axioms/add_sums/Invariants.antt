use Rattle.std.proofs.Common.{◌≡◌, ◌++◌, take}
use Rattle.bound_clauses.specs.Chain.{of_sums}
use Rattle.bound_clauses.proofs.axioms.add_sums.Given as goal

abbrev pub invariant-loop-bound : goal.invariant-loop-bound
invariant-loop-bound l = l.links.items ≡ l.initial.links.items ++ of_sums (take l.bound-index l.bounds)
