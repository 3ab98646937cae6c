use Rattle.smt_laws.proofs.LinearLawsPartsLaw.{leaves_are_parts}
use Rattle.smt_laws.proofs.linear.leaves_are_parts.Goals as goal

pub returns : goal.returns
returns c = leaves_are_parts
