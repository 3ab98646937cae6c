use Rattle.simplex_steps.proofs.Columns.{entry_not_zero}
use Rattle.simplex_steps.proofs.moves.try_columns.Goals as goal

pub list_pivot-requires-clause-nonzero : goal.list_pivot-requires-clause-nonzero
list_pivot-requires-clause-nonzero c = entry_not_zero c.args.entering _ (c.facts.ensures.ascending c.args.place c.requires.pivot.in_rows) c.requires.pivot.entry
