use Rattle.simplex.proofs.Meaning as Meaning
use Rattle.simplex.proofs.sums_stay.Goals as goal

pub returns-clause-none : goal.returns-clause-none
returns-clause-none c = Meaning.none_mean

pub returns-clause-leaves : goal.returns-clause-leaves
returns-clause-leaves c = Meaning.leaves_keep

pub returns-clause-rows : goal.returns-clause-rows
returns-clause-rows c = Meaning.rows_keep

pub returns-clause-runs : goal.returns-clause-runs
returns-clause-runs c = Meaning.runs_keep
