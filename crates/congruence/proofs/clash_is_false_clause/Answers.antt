use Rattle.congruence.proofs.Reasoning.{clash_false}
use Rattle.congruence.proofs.clash_is_false_clause.Goals as goal

pub returns : goal.returns
returns c = clash_false c.equal_points_have_one_value.ensures
