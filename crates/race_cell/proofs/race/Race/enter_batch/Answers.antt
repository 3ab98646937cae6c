use Rattle.std.proofs.Common.{rules, ap}
use Rattle.atomic_table.specs.Table.{Me}
use Rattle.race_cell.specs.declared.action.Action.TheVariants.{TakeBatch}
use Rattle.race_cell.specs.declared.view.View.{View}
use Rattle.race_cell.specs.Rules.{claim}
use Rattle.race_cell.proofs.May.{may_enter_batch, enter_gives}
use Rattle.race_cell.proofs.race.Race.enter_batch.Goals as goal

pub fetch_add-requires : goal.fetch_add-requires
fetch_add-requires g c = (search rules, search rules, may_enter_batch _ _ _ _ _ _ c.requires.1)

pub returns-clause-view : goal.returns-clause-view
returns-clause-view g c = ap (λ (m : Me g.row.S.Denot (View g.row.S.Denot)). m.0) c.fetch_add.ensures.2

pub returns-clause-held : goal.returns-clause-held
returns-clause-held g c = enter_gives _ _ (TakeBatch (claim c.args.seat.now.me.0).worker) _ c.requires.1 c.fetch_add.ensures.2
