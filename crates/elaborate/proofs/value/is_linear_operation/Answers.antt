use Rattle.std.proofs.Common.{arith}
use Rattle.elaborate.proofs.Stored.{varying}
use Rattle.elaborate.proofs.value.is_linear_operation.Goals as goal

pub returns-in-Multiply : goal.returns-in-Multiply
returns-in-Multiply c = grind (arith, varying c.args.store.now.trees c.args.arguments.now c.requires)
