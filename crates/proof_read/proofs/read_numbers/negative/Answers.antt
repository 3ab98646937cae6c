use Rattle.proof_read.proofs.ReadIntegerLemmas.{below_zero_small, below_zero_large}
use Rattle.proof_read.proofs.read_numbers.negative.Goals as goal

pub returns-else-number-eq0-clause-notes : goal.returns-else-number-eq0-clause-notes
returns-else-number-eq0-clause-notes c = below_zero_small _ _ _ c.in-Some.ensures.0 c.if-number-eq0.false c.in-Some.ensures.1

pub returns-in-None-clause-notes : goal.returns-in-None-clause-notes
returns-in-None-clause-notes c = below_zero_large _ _ _ c.in-None.ensures
