use Rattle.race_cell.proofs.May.{draws, draws_nothing}
use Rattle.race_cell.proofs.race.Race.draw.Goals as goal

pub returns-in-Ok-clause-draws : goal.returns-in-Ok-clause-draws
returns-in-Ok-clause-draws g c =
    let told = c.in-Ok.ensures in
    draws g.S.Shelf.state c.args.mark c.args.seat.now.me c.requires.1 c.slot_mut-shelf.result.now c.slot_mut-shelf.ensures.value c.in-Ok.batch c.count-count.result told.items c.count-count.ensures told.sound

pub returns-in-Err-clause-draws : goal.returns-in-Err-clause-draws
returns-in-Err-clause-draws g c = draws_nothing g.S.Shelf.state c.args.mark c.args.seat.now.me c.requires.1 c.slot_mut-shelf.result.now c.in-Err.failed c.slot_mut-shelf.ensures.value
