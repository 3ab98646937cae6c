use Rattle.smt_laws.proofs.SortLawsStackLaw.{assertions_have_below}
use Rattle.smt_laws.proofs.sorts.assertions_are_truths_at_their_levels.Goals as goal

pub returns : goal.returns
returns c = assertions_have_below
