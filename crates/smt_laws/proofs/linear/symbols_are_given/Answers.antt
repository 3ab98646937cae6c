use Rattle.smt_laws.proofs.LinearLawsStackLaw.{symbols_given}
use Rattle.smt_laws.proofs.linear.symbols_are_given.Goals as goal

pub returns : goal.returns
returns c = symbols_given
