use Rattle.smt_laws.proofs.SortLawsStackLaw.{parts_among}
use Rattle.smt_laws.proofs.sorts.parts_are_among_the_trees.Goals as goal

pub returns : goal.returns
returns c = parts_among
