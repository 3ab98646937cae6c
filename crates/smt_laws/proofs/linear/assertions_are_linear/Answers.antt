use Rattle.smt_laws.proofs.LinearLawsPartsLaw.{assertions_linear}
use Rattle.smt_laws.proofs.linear.assertions_are_linear.Goals as goal

pub returns : goal.returns
returns c = assertions_linear c.parts_are_among_the_trees.ensures
