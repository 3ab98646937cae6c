use Rattle.std.proofs.Common.{arith}
use Rattle.elaborate.proofs.Numerals.{too_large}
use Rattle.elaborate.proofs.numeral.number.Goals as goal

pub returns-in-None-clause-none : goal.returns-in-None-clause-none
returns-in-None-clause-none c = too_large c.args.digits.now c.loop-digit.digit-index c.loop-digit.number (omega arith) c.loop-digit.invariant.1 c.in-None.ensures.none
