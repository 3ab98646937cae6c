use Rattle.smt_laws.proofs.LinearLawsPartsLaw.{leaves_among}
use Rattle.smt_laws.proofs.linear.leaves_are_among_the_trees.Goals as goal

pub returns : goal.returns
returns c = leaves_among c.parts_are_among_the_trees.ensures
