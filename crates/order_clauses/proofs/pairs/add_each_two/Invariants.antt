use Rattle.std.proofs.Common.{◌≡◌, ◌+◌, ◌≤◌, ◌++◌, length}
use Rattle.order_clauses.specs.Pairs.{each_two}
use Rattle.order_clauses.specs.Counted.{pairs_among}
use Rattle.order_clauses.proofs.pairs.add_each_two.Given as goal

abbrev pub invariant-loop-first : goal.invariant-loop-first
invariant-loop-first g l = record {
  pairs : (l.pairs.items ++ each_two l.rest) ≡ (l.fn.pairs.items ++ each_two l.places);
  rise : l.fn.steps ≤ l.steps;
  steps : l.steps + pairs_among (length l.rest) ≡ l.fn.steps + pairs_among (length l.places);
}

abbrev pub decreases-loop-first : goal.decreases-loop-first
decreases-loop-first g l = length l.rest
