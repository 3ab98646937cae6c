use Rattle.std.proofs.Common.{sym, ◌∙◌}
use Rattle.race_cell.specs.Rules.{claim, base_in}
use Rattle.race_cell.proofs.Told.{share_mark, share_worker}
use Rattle.race_cell.proofs.race.Race.share.Goals as goal

pub invariant_of-pass : goal.invariant_of-pass
invariant_of-pass g c =
    let told = c.share_at.ensures.tells in
    let state = g.S.Shelf.state in
    let old = c.args.pass.now in record {
      alone = c.share_at.ensures.alone.0;
      number = old.number ∙ sym (share_worker (base_in state old.seat.me.0.base) (claim old.seat.me.0) (claim c.share_at.new.seat.me.0) c.args.clause c.share_at.result told);
      marked = old.marked ∙ sym (share_mark state old.seat.me.0 c.share_at.new.seat.me.0 c.args.clause c.share_at.result c.share_at.ensures.alone.1 told);
    }
