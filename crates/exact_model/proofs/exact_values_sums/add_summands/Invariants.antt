use Rattle.std.proofs.Common.{◌≡◌, ◌++◌, drop}
use Rattle.exact_model.specs.Sums.{pairs_of}
use Rattle.exact_model.proofs.exact_values_sums.add_summands.Given as goal

abbrev pub invariant-loop-summand : goal.invariant-loop-summand
invariant-loop-summand l = l.pairs.items ++ pairs_of l.values (drop l.summand-index l.sum) ≡ l.fn.pairs.items ++ pairs_of l.values l.sum
