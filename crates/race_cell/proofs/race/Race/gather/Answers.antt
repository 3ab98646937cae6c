use Rattle.std.proofs.Common.{rules, ap, ◌∙◌}
use Rattle.atomic_table.specs.Table.{Me}
use Rattle.race_cell.specs.declared.view.View.{View}
use Rattle.race_cell.specs.Passes as of
use Rattle.race_cell.proofs.Ends.{may_join, still_plain, gathers, all_last, all_front}
use Rattle.race_cell.proofs.race.Race.gather.Goals as goal

pub join_seat-requires : goal.join_seat-requires
join_seat-requires g c =
    let next = c.in-Some-pop.pass in (
      all_last (of.IsPassOf c.args.self.now.table.shared.table_id) _ _ next c.in-Some-pop.ensures.items c.loop-pass.invariant.all,
      search rules,
      ap (λ (z : Me g.row.S.Denot (View g.row.S.Denot)). z.1) c.loop-pass.invariant.gathered,
      search rules,
      may_join _ _ _ _ _ next.seat.me c.loop-pass.seat.me next.alone c.loop-pass.invariant.gathered,
    )

pub loop-pass-preserved : goal.loop-pass-preserved
loop-pass-preserved g c =
    let next = c.in-Some-pop.pass in record {
      table = c.join_seat.ensures.0 ∙ all_last (of.IsPassOf c.args.self.now.table.shared.table_id) _ _ next c.in-Some-pop.ensures.items c.loop-pass.invariant.all;
      gathered = still_plain next.seat.me c.loop-pass.seat.me c.join_seat.new.seat.me next.alone c.join_seat.ensures.2;
      claims = gathers c.loop-pass.passes.items c.pop-in-loop-pass.new.self.items next c.loop-pass.seat.me c.join_seat.new.seat.me _ c.in-Some-pop.ensures.items c.loop-pass.invariant.claims next.alone c.join_seat.ensures.2;
      all = all_front (of.IsPassOf c.args.self.now.table.shared.table_id) _ _ next c.in-Some-pop.ensures.items c.loop-pass.invariant.all;
    }
