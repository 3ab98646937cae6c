use Rattle.simplex_steps.proofs.Independent as Independent
use Rattle.simplex_steps.proofs.pivots_exchange.Goals as goal

pub returns-clause-one : goal.returns-clause-one
returns-clause-one c = Independent.pivots_exchange

pub returns-clause-runs : goal.returns-clause-runs
returns-clause-runs c = Independent.runs_exchange
