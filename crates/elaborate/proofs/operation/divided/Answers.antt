use Rattle.std.proofs.Common.{◌∙◌}
use Rattle.elaborate.proofs.Dividing.{value_within}
use Rattle.elaborate.proofs.Grow.{value_grows}
use Rattle.elaborate.proofs.Operations.{dividing_goes_on}
use Rattle.elaborate.proofs.Puts.{longer_both}
use Rattle.elaborate.proofs.operation.divided.Goals as goal

pub quotient-requires : goal.quotient-requires
quotient-requires c = (
  c.loop-divisor.invariant.dividing.value,
  (
    value_grows c.args.store.now.trees c.loop-divisor.store.trees _ c.loop-divisor.invariant.grown.0 (value_within c.args.store.now.trees c.args.divisors.now c.loop-divisor.divisor-index _ c.requires.divisors c.loop-divisor-test.true),
    tt,
  ),
)

pub loop-divisor-preserved : goal.loop-divisor-preserved
loop-divisor-preserved c = record {
  dividing =
      dividing_goes_on c.args.sort c.args.number _ c.loop-divisor.value c.in_ok-value.value c.args.divisors.now c.loop-divisor.divisor-index c.args.store.now.trees c.loop-divisor.store.trees c.quotient.new.store.trees c.loop-divisor.invariant.grown.0 c.requires.divisors c.loop-divisor-test.true c.loop-divisor.invariant.dividing
      (c.in_ok-value.ensures.ok c.args.store.now.trees c.loop-divisor.invariant.dividing.trees);
  grown = (longer_both c.args.store.now.trees c.loop-divisor.store.trees c.quotient.new.store.trees c.loop-divisor.invariant.grown.0 c.quotient.ensures.longer.0, c.quotient.ensures.longer.1 ∙ c.loop-divisor.invariant.grown.1);
}
