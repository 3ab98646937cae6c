use Rattle.std.proofs.Common.{◌≡◌, ◌++◌, map, drop}
use Rattle.exact_model.specs.Atoms.{pair_by}
use Rattle.exact_model.proofs.log_value_sums.pair_up.Given as goal

abbrev pub invariant-loop-summand : goal.invariant-loop-summand
invariant-loop-summand l = l.pairs.items ++ map (pair_by l.values) (drop l.summand-index l.sum) ≡ map (pair_by l.values) l.sum
