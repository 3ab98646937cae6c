use Rattle.std.proofs.Common.{ap, ◌∙◌, arith}
use Rattle.fraction128.proofs.Integers.{same_bits64, small_bits}
use Rattle.fraction128.proofs.Smallness.{product-small_whole}
use Rattle.fraction128.proofs.small.product_whole.Goals as goal

pub returns : goal.returns
returns c =
    let of_a = small_bits c.numerator.result c.args.x.numerator c.numerator.ensures c.requires.x_is.small.numerator_small in
    let of_c = small_bits c.numerator-2.result c.args.y.numerator c.numerator-2.ensures c.requires.y_is.small.numerator_small in
    let over = rw (of_a, of_c) at c.scale_signed.ensures.value in
    let out = rw (same_bits64 c.scale_signed.result (omega (arith, c.scale_signed.ensures.bound))) at c.ratio.ensures in
    product-small_whole c.args.x c.args.y c.ratio.result c.requires.x_is c.requires.y_is
    c.requires.x_whole c.requires.y_whole (ap (λ r. r.numerator) out ∙ over) (ap (λ r. r.denominator) out)
