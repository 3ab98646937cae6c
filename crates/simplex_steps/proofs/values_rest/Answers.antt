use Rattle.simplex_steps.proofs.Resting as Resting
use Rattle.simplex_steps.proofs.values_rest.Goals as goal

pub returns : goal.returns
returns c = Resting.runs_rest
