use Rattle.std.proofs.Common.{rules, ap}
use Rattle.atomic_table.specs.Table.{Me}
use Rattle.race_cell.specs.declared.view.View.{View}
use Rattle.race_cell.specs.Rules.{share_out}
use Rattle.race_cell.proofs.May.{may_enter_share, enter_gives}
use Rattle.race_cell.proofs.race.Race.enter_share.Goals as goal

pub fetch_add-requires : goal.fetch_add-requires
fetch_add-requires g c = (search rules, search rules, may_enter_share _ _ _ _ _ _ c.requires.1 c.requires.2)

pub returns-clause-view : goal.returns-clause-view
returns-clause-view g c = ap (λ (m : Me g.row.S.Denot (View g.row.S.Denot)). m.0) c.fetch_add.ensures.2

pub returns-clause-held : goal.returns-clause-held
returns-clause-held g c = enter_gives _ _ (share_out g.S.Shelf.state c.args.seat.now.me.1) _ c.requires.2 c.fetch_add.ensures.2
