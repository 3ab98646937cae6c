use Rattle.std.proofs.Common.{◌+◌, ◌*◌, ◌^◌, ◌≤◌, ◌+ℤ◌, ◌*ℤ◌, pos, ap, ap₂, ◌∙◌, arith}
use Rattle.std.specs.Int.{w128}
use Rattle.std.proofs.lemmas.Int.{to_z-of_z}
use Rattle.fraction128.specs.Dot.{dot_of}
use Rattle.fraction128.specs.Wide.{seven_value}
use Rattle.fraction128.proofs.DigitLemmas.{dot_all, dot_more}
use Rattle.fraction128.proofs.Places.{seven_more}
use Rattle.fraction128.proofs.wide.sum_of_products.Goals as goal

pub loop-pair-preserved : goal.loop-pair-preserved
loop-pair-preserved c =
    let few : 2 ^ 32 + c.loop-pair.pair-index * 2 ^ 66 ≤ 2 ^ 125 = omega arith in
    record {
      total = dot_more (seven_value c.loop-pair.sum) (seven_value c.with_product-sum.result) _ c.args.pairs.now c.loop-pair.pair-index (pos 0, pos 0) (omega arith) c.loop-pair.invariant.total
          (c.with_product-sum.ensures.value
          ∙ ap₂ (λ x y. seven_value c.loop-pair.sum +ℤ x *ℤ y)
          (c.digits_of-left.ensures.value ∙ to_z-of_z w128 c.number_at.result (record { sfits = c.number_at.type_inv }) ∙ c.number_at.ensures)
          (c.digits_of-right.ensures.value ∙ to_z-of_z w128 c.number_at-in-loop-pair.result (record { sfits = c.number_at-in-loop-pair.type_inv }) ∙ c.number_at-in-loop-pair.ensures));
      within = seven_more c.with_product-sum.result (2 ^ 32 + c.loop-pair.pair-index * 2 ^ 66 + 2 ^ 66) (2 ^ 32 + (c.loop-pair.pair-index + 1) * 2 ^ 66) (omega arith)
          (c.with_product-sum.ensures.grown (2 ^ 32 + c.loop-pair.pair-index * 2 ^ 66) few c.loop-pair.invariant.within);
    }

pub returns : goal.returns
returns c = record {
  value = dot_all (seven_value c.loop-pair.sum) _ c.args.pairs.now c.loop-pair.pair-index (omega arith) c.loop-pair.invariant.total
      ∙ ap (λ k. dot_of k c.args.pairs.now) (to_z-of_z w128 c.args.constant c.ranges.constant);
  within = seven_more c.loop-pair.sum (2 ^ 32 + c.loop-pair.pair-index * 2 ^ 66) (2 ^ 125) (omega arith) c.loop-pair.invariant.within;
}
