use Rattle.smt_laws.proofs.OperationLaw.{operation_is_linear}
use Rattle.smt_laws.proofs.terms.operation_is_linear.Goals as goal

pub returns : goal.returns
returns c = operation_is_linear
