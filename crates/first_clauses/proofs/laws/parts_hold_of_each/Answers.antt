use Rattle.first_clauses.proofs.Agreeing.{held_of_each}
use Rattle.first_clauses.proofs.laws.parts_hold_of_each.Goals as goal

pub returns : goal.returns
returns c = held_of_each c.flat_says_the_same.ensures
