use Rattle.smt_laws.proofs.LinearLawsStackLaw.{trees_linear}
use Rattle.smt_laws.proofs.linear.trees_are_linear.Goals as goal

pub returns : goal.returns
returns c = trees_linear
