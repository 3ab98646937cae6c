use Rattle.std.proofs.Common.{◌+ℤ◌, ap, ◌∙◌, arith}
use Rattle.fraction128.proofs.DigitLemmas.{both_back, product_back}
use Rattle.fraction128.proofs.wide.with_times.Goals as goal

pub returns-clause-value : goal.returns-clause-value
returns-clause-value c =
    both_back c.args.place c.times.result (omega (arith, c.requires.near, c.times.ensures.bound))
    ∙ ap (λ z. c.args.place +ℤ z) (product_back c.times.result c.args.a c.args.b c.requires.left c.requires.right c.times.ensures.value)
