use Rattle.smt_laws.proofs.SortLawsStackLaw.{accepted_has}
use Rattle.smt_laws.proofs.sorts.accepted_term_has_its_sort.Goals as goal

pub returns : goal.returns
returns c = accepted_has
