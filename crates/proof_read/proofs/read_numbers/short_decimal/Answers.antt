use Rattle.proof_read.proofs.ReadNumberLemmas.{stays_above}
use Rattle.proof_read.proofs.read_numbers.short_decimal.Goals as goal

pub returns-in-None : goal.returns-in-None
returns-in-None c = stays_above _ c.args.digits.now c.loop-digit.digit-index c.loop-digit.number c.loop-digit-test.true c.loop-digit.invariant.0 c.in-None.ensures
