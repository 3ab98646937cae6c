use Rattle.std.proofs.Common.{◌≡◌, ◌+◌, ◌-◌, ◌≤◌, ◌++◌, take, drop, length}
use Rattle.bound_clauses.specs.Chain.{of_sums, of_negations, merged}
use Rattle.bound_clauses.proofs.axioms.merge.Given as goal

abbrev pub invariant-loop-i : goal.invariant-loop-i
invariant-loop-i l = record {
  here : l.i ≤ length l.bounds;
  there : l.j ≤ length l.negated;
  rest : (l.links.items ++ merged (of_sums (drop l.i l.bounds)) (of_negations (take l.j l.negated))) ≡ merged (of_sums l.bounds) (of_negations l.negated);
}

abbrev pub decreases-loop-i : goal.decreases-loop-i
decreases-loop-i l = length l.bounds - l.i + l.j
