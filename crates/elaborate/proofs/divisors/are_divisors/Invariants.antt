use Rattle.std.proofs.Common.{◌≡◌, drop, map}
use Rattle.smt_meaning.specs.TreeShape.{are_divisors}
use Rattle.smt_meaning.specs.Sorts.{trees_of}
use Rattle.elaborate.specs.Values.{typed}
use Rattle.elaborate.proofs.divisors.are_divisors.Given as goal

abbrev pub invariant-loop-value : goal.invariant-loop-value
invariant-loop-value l = are_divisors (trees_of (map (typed l.store.trees) l.values)) ≡ are_divisors (trees_of (map (typed l.store.trees) (drop l.value-index l.values)))
