use Rattle.bound_log.proofs.Fractions as Fractions
use Rattle.bound_log.proofs.laws.fractions_hold.Goals as goal

pub returns-clause-hold : goal.returns-clause-hold
returns-clause-hold c = Fractions.fractions_hold

pub returns-clause-values : goal.returns-clause-values
returns-clause-values c = Fractions.leaves_have_values
