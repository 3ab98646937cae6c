use Rattle.exact_model.proofs.Deciding.{literal_is}
use Rattle.exact_model.proofs.laws.truth_is_by_values.Goals as goal

pub returns : goal.returns
returns c = λ trees marks I values atoms l are all less. literal_is trees marks I values are atoms all l less
