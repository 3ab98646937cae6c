use Rattle.std.proofs.Common.{ap, sym, subst, ◌∙◌}
use Rattle.atomic_table.specs.Table.{Me}
use Rattle.race_cell.specs.declared.action.Action.{Action}
use Rattle.race_cell.specs.declared.view.View.{View}
use Rattle.race_cell.specs.Actions.{worker_of}
use Rattle.race_cell.specs.Calls.{Ready}
use Rattle.race_cell.proofs.Told.{share_told, same_worker}
use Rattle.race_cell.proofs.race.Race.share_at.Goals as goal

pub enter_share-requires : goal.enter_share-requires
enter_share-requires g c =
    let took = c.if-not-take.ensures.takes in
    let told = c.in-Shared.ensures.puts in (
      c.put.ensures.table ∙ (c.take.ensures.table ∙ c.requires.0),
      ap worker_of told.3 ∙ (c.requires.2 ∙ sym (same_worker c.args.seat.now.me.0 c.take.new.seat.me.0 c.put.new.seat.me.0 took.0 took.2 told.0)),
      subst (λ (e : Action). Ready g.S.Shelf.state e c.put.new.seat.me) (sym told.3) told.1,
    )

pub returns-in-Shared-clause-tells : goal.returns-in-Shared-clause-tells
returns-in-Shared-clause-tells g c =
    let took = c.if-not-take.ensures.takes in
    let told = c.in-Shared.ensures.puts in
    share_told g.S.Shelf.state c.args.seat.now.me.0 c.take.new.seat.me.0 c.put.new.seat.me.0 c.enter_share.new.seat.me.0 c.give.new.seat.me.0 took.0 c.args.worker _ _ _ took.1 c.requires.2 told.3
    took.2 told.0 c.enter_share.ensures.view (ap (λ (m : Me g.row.S.Denot (View g.row.S.Denot)). m.0) c.give.ensures.view) told.2
