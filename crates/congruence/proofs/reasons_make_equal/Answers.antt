use Rattle.congruence.proofs.Reasoning.{reasons_equal}
use Rattle.congruence.proofs.reasons_make_equal.Goals as goal

pub returns : goal.returns
returns c = reasons_equal c.equal_points_have_one_value.ensures
