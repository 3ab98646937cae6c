use Rattle.first_clauses.proofs.Deciding.{assertions_hold}
use Rattle.first_clauses.proofs.laws.first_clauses_say_assertions.Goals as goal

pub returns : goal.returns
returns c = assertions_hold
