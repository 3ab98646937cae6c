use Rattle.std.proofs.Common.{sym, ◌∙◌}
use Rattle.smt_meaning.specs.Sorts.{decimal}
use Rattle.elaborate.proofs.Divisible.{zero_divisor, large_divisor, divisor_is}
use Rattle.elaborate.proofs.head.divisor_written.Goals as goal

pub returns-then-number-eq0 : goal.returns-then-number-eq0
returns-then-number-eq0 c = zero_divisor (decimal c.args.digits.now) (sym c.in-Some.ensures.some ∙ c.if-number-eq0.true)

pub returns-else-number-eq0 : goal.returns-else-number-eq0
returns-else-number-eq0 c = divisor_is c.in-Some.number (decimal c.args.digits.now) c.in-Some.ensures.some c.if-number-eq0.false c.in-Some.ensures.small

pub returns-in-None : goal.returns-in-None
returns-in-None c = large_divisor (decimal c.args.digits.now) c.in-None.ensures.none
