use Rattle.elaborate.proofs.Operations.{not_two_result}
use Rattle.elaborate.proofs.operation.operated.Goals as goal

pub returns-else-arguments-eq2-clause-ok : goal.returns-else-arguments-eq2-clause-ok
returns-else-arguments-eq2-clause-ok c =
    not_two_result c.args.operator c.args.sort c.args.arguments.now c.args.store.now.trees c.stored.new.store.trees c.stored.result c.in-Modulo.is c.if-arguments-eq2.false c.stored.ensures.ok
