use Rattle.elaborate.proofs.Dividing.{no_quotient_beside}
use Rattle.elaborate.proofs.divisors.has_quotient.Goals as goal

pub returns-then-arguments-ne3 : goal.returns-then-arguments-ne3
returns-then-arguments-ne3 c = no_quotient_beside c.args.store.now.trees c.args.arguments.now c.if-arguments-ne3.true
