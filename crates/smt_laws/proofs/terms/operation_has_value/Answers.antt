use Rattle.smt_laws.proofs.OperationLaw.{operation_has_value}
use Rattle.smt_laws.proofs.terms.operation_has_value.Goals as goal

pub returns : goal.returns
returns c = operation_has_value
