use Rattle.std.proofs.Common.{arith, ◌<◌, ap}
use Rattle.atomic_table.specs.Table.{Me}
use Rattle.race_cell.specs.declared.view.View.{View}
use Rattle.race_cell.proofs.Ends.{at_end}
use Rattle.race_cell.proofs.race.Race.close.Goals as goal

pub returns : goal.returns
returns g c =
    let all = c.requires.all in
    let n = c.args.self.table.shared.key.workers in
    let some-one : 0 < n = omega arith in
    at_end _ _ c.args.seat.me.0.base n c.args.seat.id c.args.seat.me.0.claims c.args.seat.me.0 _ _ c.take-shelf.result (ap (λ (m : Me g.row.S.Denot (View g.row.S.Denot)). m.0) c.requires.claims) all.0 some-one c.close_with-closed.ensures.values.2 c.take-shelf.ensures.value
