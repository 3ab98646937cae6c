use Rattle.std.proofs.Common.{◌≡◌, ◌+◌, ◌*◌, ◌^◌, drop}
use Rattle.fraction128.specs.Dot.{dot_of}
use Rattle.fraction128.specs.Wide.{seven_value, AreSevenWithin}
use Rattle.fraction128.proofs.wide.sum_of_products.Given as goal

abbrev pub invariant-loop-pair : goal.invariant-loop-pair
invariant-loop-pair l = record {
  total : dot_of (seven_value l.sum) (drop l.pair-index l.pairs) ≡ dot_of l.constant l.pairs;
  within : AreSevenWithin l.sum (2 ^ 32 + l.pair-index * 2 ^ 66);
}
