use Rattle.std.proofs.Common.{◌∙◌, ap}
use Rattle.std.specs.Int.{w128}
use Rattle.std.proofs.lemmas.Int.{to_z-of_z}
use Rattle.fraction128.specs.Dot.{dot_of}
use Rattle.fraction128.specs.Digits.{held}
use Rattle.fraction128.proofs.exact_sum.dot.Goals as goal

pub returns : goal.returns
returns c =
    let value = c.settled.ensures.value ∙ c.sum_of_products.ensures.value ∙ ap (λ k. dot_of k c.args.pairs.now) (to_z-of_z w128 c.args.constant c.ranges.constant) in
    let ranged = c.in_range.ensures (dot_of c.args.constant c.args.pairs.now) (c.word.ensures ∙ ap held value) in
    record { some = ranged.some; none = ranged.none }
