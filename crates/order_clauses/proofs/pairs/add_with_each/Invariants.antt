use Rattle.std.proofs.Common.{◌≡◌, ◌+◌, ◌++◌, drop}
use Rattle.order_clauses.specs.Pairs.{with_each}
use Rattle.order_clauses.proofs.pairs.add_with_each.Given as goal

abbrev pub invariant-loop-place : goal.invariant-loop-place
invariant-loop-place g l = record {
  pairs : (l.pairs.items ++ with_each l.first (drop l.place-index l.others)) ≡ (l.fn.pairs.items ++ with_each l.first l.others);
  steps : l.steps ≡ l.fn.steps + l.place-index;
}
