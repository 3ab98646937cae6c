use Rattle.congruence.proofs.Justifying.{truth_justified}
use Rattle.congruence.proofs.truth_is_justified.Goals as goal

pub returns : goal.returns
returns c = truth_justified c.value_has_its_sort.ensures
