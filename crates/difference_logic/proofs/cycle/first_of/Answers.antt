use Rattle.difference_logic.proofs.Saying.{some_among}
use Rattle.difference_logic.proofs.cycle.first_of.Goals as goal

pub returns : goal.returns
returns c = some_among c.args.atoms.now.atoms c.literal_at-literal.result c.args.literals.now c.difference_of.result c.literal_at-literal.ensures c.difference_of.ensures
