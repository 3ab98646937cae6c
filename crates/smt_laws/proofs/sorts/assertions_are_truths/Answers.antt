use Rattle.smt_laws.proofs.SortLawsStackLaw.{assertions_have}
use Rattle.smt_laws.proofs.sorts.assertions_are_truths.Goals as goal

pub returns : goal.returns
returns c = assertions_have
