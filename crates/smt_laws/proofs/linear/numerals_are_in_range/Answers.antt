use Rattle.smt_laws.proofs.LinearLawsStackLaw.{numerals_in_range}
use Rattle.smt_laws.proofs.linear.numerals_are_in_range.Goals as goal

pub returns : goal.returns
returns c = numerals_in_range
