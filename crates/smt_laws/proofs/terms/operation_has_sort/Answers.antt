use Rattle.smt_laws.proofs.OperationLaw.{operation_has_sort}
use Rattle.smt_laws.proofs.terms.operation_has_sort.Goals as goal

pub returns : goal.returns
returns c = operation_has_sort
