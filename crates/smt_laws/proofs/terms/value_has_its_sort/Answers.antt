use Rattle.smt_laws.proofs.SortLaw.{value_fits_sort}
use Rattle.smt_laws.proofs.terms.value_has_its_sort.Goals as goal

pub returns : goal.returns
returns c = value_fits_sort
