use Rattle.simplex_steps.proofs.Independent as Independent
use Rattle.simplex_steps.proofs.sums_stay_independent.Goals as goal

pub returns-clause-solutions : goal.returns-clause-solutions
returns-clause-solutions c = Independent.solutions_are_free

pub returns-clause-free : goal.returns-clause-free
returns-clause-free c = Independent.free_are_solutions

pub returns-clause-pivots : goal.returns-clause-pivots
returns-clause-pivots c = Independent.pivots_keep_free

pub returns-clause-moves : goal.returns-clause-moves
returns-clause-moves c = Independent.moves_keep_free
