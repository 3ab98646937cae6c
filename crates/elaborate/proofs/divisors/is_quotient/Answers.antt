use Rattle.elaborate.proofs.Dividing.{no_quotient}
use Rattle.elaborate.proofs.divisors.is_quotient.Goals as goal

pub returns-then-arguments-ne2 : goal.returns-then-arguments-ne2
returns-then-arguments-ne2 c = no_quotient c.args.store.now.trees c.args.arguments.now c.if-arguments-ne2.true
