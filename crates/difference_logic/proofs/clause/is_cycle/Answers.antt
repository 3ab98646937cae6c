use Rattle.difference_logic.proofs.Clausing.{not_all}
use Rattle.difference_logic.proofs.clause.is_cycle.Goals as goal

pub returns-in-Some : goal.returns-in-Some
returns-in-Some c = λ b. not_all c.args.atoms.now.atoms c.args.literals.now c.in-Some.path c.in-Some.ensures (c.is_broken.ensures b)
