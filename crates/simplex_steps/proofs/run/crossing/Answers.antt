use Rattle.std.proofs.Common.{inr}
use Rattle.simplex_steps.proofs.Next.{crossed_next}
use Rattle.simplex_steps.proofs.run.crossing.Goals as goal

pub returns-in-Ok-clause-ends : goal.returns-in-Ok-clause-ends
returns-in-Ok-clause-ends c = λ t. (crossed_next t c.args.columns.now c.args.variable c.requires.known c.requires.crossed, inr c.in-Ok.ensures)
