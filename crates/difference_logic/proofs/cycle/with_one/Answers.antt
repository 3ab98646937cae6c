use Rattle.difference_logic.proofs.Saying.{some_next}
use Rattle.difference_logic.proofs.cycle.with_one.Goals as goal

pub returns : goal.returns
returns c =
    some_next c.args.atoms.now.atoms c.literal_at-literal.result c.args.literals.now c.args.path c.with_next.result c.requires.path c.literal_at-literal.ensures c.with_next.ensures
