use Rattle.order_clauses.proofs.Numbering.{found}
use Rattle.order_clauses.proofs.laws.numbers_are_found.Goals as goal

pub returns : goal.returns
returns c = found
