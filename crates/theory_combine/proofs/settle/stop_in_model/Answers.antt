use Rattle.bound_log.specs.Told.{column_sums}
use Rattle.theory_combine.proofs.Outside.{model_left}
use Rattle.theory_combine.proofs.settle.stop_in_model.Goals as goal

pub stop_seeing-requires-clause-seen : goal.stop_seeing-requires-clause-seen
stop_seeing-requires-clause-seen c =
    let w = c.args.progress.now in
    let way = c.requires.ready.under_way in
    model_left c.args.parts.now.stack.now (column_sums w.held.bounds) w.branches w.seen w.atoms.atoms way.3 c.args.found.tables c.args.found.place c.args.found.grid (c.requires.found w.atoms.atoms way.1.held.knows)
