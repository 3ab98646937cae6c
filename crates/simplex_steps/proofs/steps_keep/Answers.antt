use Rattle.simplex_steps.proofs.Keeping as Keeping
use Rattle.simplex_steps.proofs.steps_keep.Goals as goal

pub returns-clause-keep : goal.returns-clause-keep
returns-clause-keep c = Keeping.steps_keep

pub returns-clause-moves : goal.returns-clause-moves
returns-clause-moves c = Keeping.moves_settle

pub returns-clause-pivots : goal.returns-clause-pivots
returns-clause-pivots c = Keeping.pivots_settle
