use Rattle.order_clauses.proofs.DivisionDeciding.{division_part_decided}
use Rattle.order_clauses.proofs.laws.division_part_is_decided.Goals as goal

pub returns : goal.returns
returns c = division_part_decided c.division_rows_force.ensures.places
