use Rattle.std.proofs.Common.{ap, ◌∙◌}
use Rattle.atomic_table.specs.Table.{Me}
use Rattle.race_cell.specs.declared.view.View.{View}
use Rattle.race_cell.proofs.Told.{batch_told, batch_marks, returned_mark}
use Rattle.race_cell.proofs.race.Race.batch_at.Goals as goal

pub returns-in-Ok-clause-tells : goal.returns-in-Ok-clause-tells
returns-in-Ok-clause-tells g c =
    let took = c.if-not-take.ensures.takes in
    batch_told g.S.Shelf.state c.args.seat.now.me.0 c.take.new.seat.me.0 c.draw.new.seat.me.0 c.enter_batch.new.seat.me.0 c.give.new.seat.me.0 took.0 c.args.mark.now c.in-Ok.batch took.1 c.requires.2
    took.2 c.in-Ok.ensures.draws.0 c.enter_batch.ensures.view (ap (λ (m : Me g.row.S.Denot (View g.row.S.Denot)). m.0) c.give.ensures.view) c.in-Ok.ensures.draws.2 c.in-Ok.ensures.draws.4

pub returns-in-Ok-clause-mark : goal.returns-in-Ok-clause-mark
returns-in-Ok-clause-mark g c =
    let took = c.if-not-take.ensures.takes in
    batch_marks g.S.Shelf.state c.args.seat.now.me.0 c.take.new.seat.me.0 c.draw.new.seat.me.0 c.enter_batch.new.seat.me.0 c.give.new.seat.me.0 took.0 c.in-Ok.count
    took.2 c.in-Ok.ensures.draws.0 c.enter_batch.ensures.view (ap (λ (m : Me g.row.S.Denot (View g.row.S.Denot)). m.0) c.give.ensures.view) c.in-Ok.ensures.draws.3

pub returns-in-Err-clause-mark : goal.returns-in-Err-clause-mark
returns-in-Err-clause-mark g c =
    let took = c.if-not-take.ensures.takes in
    c.requires.2 ∙ returned_mark g.S.Shelf.state c.args.seat.now.me.0 c.take.new.seat.me.0 c.draw.new.seat.me.0 c.give_back.new.seat.me.0 took.0 took.1 took.2 c.in-Err.ensures.draws.0 (ap (λ (m : Me g.row.S.Denot (View g.row.S.Denot)). m.0) c.give_back.ensures.view)
