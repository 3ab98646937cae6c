use Rattle.std.proofs.Common.{arith}
use Rattle.fraction128.proofs.DigitLemmas.{digit_back, both_back, carried_first, carried_back, settled_value}
use Rattle.fraction128.proofs.exact_sum.settled.Goals as goal

pub returns-clause-value : goal.returns-clause-value
returns-clause-value c =
    rw (digit_back c.carried-first.result.digit c.carried-first.ensures.digit, digit_back c.carried-second.result.digit c.carried-second.ensures.digit, digit_back c.carried-third.result.digit c.carried-third.ensures.digit, digit_back c.carried-fourth.result.digit c.carried-fourth.ensures.digit, digit_back c.carried-fifth.result.digit c.carried-fifth.ensures.digit, digit_back c.carried-sixth.result.digit c.carried-sixth.ensures.digit, both_back c.args.w.d6 c.carried-sixth.result.carry (omega (arith, c.requires.seventh, c.carried-sixth.ensures.carry)))
    (settled_value c.args.w c.carried-first.result.digit c.carried-second.result.digit c.carried-third.result.digit c.carried-fourth.result.digit c.carried-fifth.result.digit c.carried-sixth.result.digit c.carried-first.result.carry c.carried-second.result.carry c.carried-third.result.carry c.carried-fourth.result.carry c.carried-fifth.result.carry c.carried-sixth.result.carry
    (carried_first c.carried-first.result.digit c.carried-first.result.carry c.args.w.d0 c.requires.first c.carried-first.ensures.value)
    (carried_back c.carried-second.result.digit c.carried-second.result.carry c.args.w.d1 c.carried-first.result.carry c.requires.second c.carried-first.ensures.carry c.carried-second.ensures.value)
    (carried_back c.carried-third.result.digit c.carried-third.result.carry c.args.w.d2 c.carried-second.result.carry c.requires.third c.carried-second.ensures.carry c.carried-third.ensures.value)
    (carried_back c.carried-fourth.result.digit c.carried-fourth.result.carry c.args.w.d3 c.carried-third.result.carry c.requires.fourth c.carried-third.ensures.carry c.carried-fourth.ensures.value)
    (carried_back c.carried-fifth.result.digit c.carried-fifth.result.carry c.args.w.d4 c.carried-fourth.result.carry c.requires.fifth c.carried-fourth.ensures.carry c.carried-fifth.ensures.value)
    (carried_back c.carried-sixth.result.digit c.carried-sixth.result.carry c.args.w.d5 c.carried-fifth.result.carry c.requires.sixth c.carried-fifth.ensures.carry c.carried-sixth.ensures.value))
