use Rattle.order_clauses.proofs.Counting.{each_two_counted, part_at_most, of_four, not_neighbours}
use Rattle.order_clauses.proofs.laws.pairs_are_counted.Goals as goal

pub returns : goal.returns
returns c = record { pairs = each_two_counted; most = part_at_most; of_four = of_four; not_neighbours = not_neighbours }
