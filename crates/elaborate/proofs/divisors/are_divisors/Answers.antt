use Rattle.elaborate.proofs.Dividing.{value_within}
use Rattle.elaborate.proofs.divisors.are_divisors.Goals as goal

pub is_divisor-requires : goal.is_divisor-requires
is_divisor-requires c = (value_within c.args.store.now.trees c.args.values.now c.loop-value.value-index _ c.requires c.loop-value-test.true).within
