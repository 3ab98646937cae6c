use Rattle.simplex_steps.proofs.Short as Short
use Rattle.simplex_steps.proofs.runs_are_short.Goals as goal

pub returns : goal.returns
returns c = Short.runs_are_short
