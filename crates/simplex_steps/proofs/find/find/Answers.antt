use Rattle.simplex_steps.proofs.Next.{next_none, all_within}
use Rattle.simplex_steps.proofs.find.find.Goals as goal

pub returns-in-None : goal.returns-in-None
returns-in-None c = (
  next_none c.args.tableau.now c.args.columns.now c.facts.ensures c.requires.sound.uncrossed c.requires.settled c.in-None.ensures,
  all_within c.args.tableau.now c.args.columns.now c.requires.settled c.in-None.ensures,
)
