use Rattle.first_clauses.proofs.Standing.{standing_said}
use Rattle.first_clauses.proofs.laws.first_clauses_say_standing.Goals as goal

pub returns : goal.returns
returns c =
    standing_said c.flat_says_the_same.ensures c.parts_have_numbers.ensures c.orders_are_comparisons.ensures c.rows_are_atoms.ensures c.divisions_stand_by_places.ensures.clauses
