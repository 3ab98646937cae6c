use Rattle.smt_laws.proofs.BelowLaw.{sorts_below}
use Rattle.smt_laws.proofs.sorts.sorts_are_the_same_below.Goals as goal

pub returns : goal.returns
returns c = sorts_below
