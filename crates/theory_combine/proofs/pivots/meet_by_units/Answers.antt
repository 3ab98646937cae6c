use Rattle.std.proofs.Common.{◌≡◌, refl, ap, arith}
use Rattle.search_port.specs.Spending.{Spending}
use Rattle.theory_combine.proofs.Answering.{has_met, spends_all}
use Rattle.theory_combine.proofs.Spending.{went_by_units, went_unspent}
use Rattle.theory_combine.proofs.pivots.meet_by_units.Goals as goal

pub returns-in-Ok-clause-went : goal.returns-in-Ok-clause-went
returns-in-Ok-clause-went c =
    let met = c.meet_bounds-met in
    went_by_units c.args.parts.now c.args.progress.now met.new.held c.args.budget.now c.spend_pivots.new.budget c.room-room.result met.result c.requires.ready.under_way met.ensures.held met.ensures.log met.ensures.sums
    met.ensures.lines met.ensures.before met.ensures.after c.room-room.ensures c.spend_pivots.ensures.spent c.in-Ok.ensures.every c.requires.keeps

pub returns-in-Ok-clause-met : goal.returns-in-Ok-clause-met
returns-in-Ok-clause-met c =
    let met = c.meet_bounds-met in
    let b = c.args.budget.now in
    let new = c.spend_pivots.new.budget in
    let bound : new.bound ≡ b.bound = ap (λ (x : Spending). x.bound) c.spend_pivots.ensures.spent.is in
    has_met c.args.parts.now c.args.progress.now met.new.held new met.result.met c.requires.ready met.ensures.held met.ensures.log met.ensures.sums met.ensures.met
    (spends_all new met.result.met (λ e. omega (arith, bound, c.in-Ok.ensures.all, met.ensures.lines.spent refl e, c.room-room.ensures)))

pub returns-in-Err-clause-went : goal.returns-in-Err-clause-went
returns-in-Err-clause-went c =
    let met = c.meet_bounds-met in
    went_unspent c.args.parts.now c.args.progress.now met.new.held c.args.budget.now c.spend_pivots.new.budget c.room-room.result c.len.result met.result c.requires.ready.under_way met.ensures.held met.ensures.log met.ensures.sums
    met.ensures.lines met.ensures.before c.room-room.ensures c.spend_pivots.ensures.spent c.len.ensures.count c.requires.keeps
