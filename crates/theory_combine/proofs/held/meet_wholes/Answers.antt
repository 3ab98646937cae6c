use Rattle.theory_combine.proofs.Cycling.{ok_match}
use Rattle.theory_combine.proofs.Holding.{clause_met}
use Rattle.theory_combine.proofs.held.meet_wholes.Goals as goal

pub returns-in-None : goal.returns-in-None
returns-in-None c =
    ok_match c.whole_conflict.result (rw c.in-None.is at c.in_ok-clause.ensures) (λ clause i. clause_met c.flat_says_the_same.ensures c.args.stack.now c.args.atoms.now.atoms c.args.held.now clause c.requires.setting c.requires.held i)
    c.whole_conflict.ensures
