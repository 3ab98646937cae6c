use Rattle.theory_combine.proofs.Chained.{keeps_grid}
use Rattle.theory_combine.proofs.held.undo_both.Goals as goal

pub returns-clause-variables : goal.returns-clause-variables
returns-clause-variables c =
    keeps_grid c.values_stay.ensures c.args.held.now.bounds c.undo_to-2.new.self c.undo_to-2.ensures.variables c.undo_to-2.ensures.undone.table c.undo_to-2.ensures.undone.values
