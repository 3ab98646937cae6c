use Rattle.smt_laws.proofs.OrderLaw.{trees_in_order}
use Rattle.smt_laws.proofs.sorts.trees_are_in_order.Goals as goal

pub returns : goal.returns
returns c = trees_in_order
