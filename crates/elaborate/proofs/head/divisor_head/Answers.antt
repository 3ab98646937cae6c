use Rattle.smt_meaning.specs.Sorts.{head_number}
use Rattle.look_ahead.specs.Ahead.{ahead}
use Rattle.elaborate.proofs.Divisible.{no_divisor}
use Rattle.elaborate.proofs.head.divisor_head.Goals as goal

pub returns-in-None : goal.returns-in-None
returns-in-None c = no_divisor (head_number (ahead c.args.term.now c.args.place)) c.in-None.ensures.none
