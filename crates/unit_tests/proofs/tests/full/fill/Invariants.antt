use Rattle.std.proofs.Common.{◌≡◌}
use Rattle.lemma_pool.specs.Pools.{cut_base}
use Rattle.unit_tests.specs.Stack.{two_levels}
use Rattle.unit_tests.proofs.tests.full.fill.Given as goal

abbrev pub invariant-loop : goal.invariant-loop
invariant-loop l = cut_base l.pool.levels two_levels ≡ two_levels
