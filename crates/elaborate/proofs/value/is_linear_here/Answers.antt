use Rattle.std.proofs.Common.{arith}
use Rattle.elaborate.proofs.Stored.{varying}
use Rattle.elaborate.proofs.value.is_linear_here.Goals as goal

pub returns-in-Theory-Multiply : goal.returns-in-Theory-Multiply
returns-in-Theory-Multiply c = grind (arith, varying c.args.store.now.trees c.args.arguments.now c.requires)
