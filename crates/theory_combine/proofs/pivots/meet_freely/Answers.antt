use Rattle.std.proofs.Common.{arith}
use Rattle.theory_combine.specs.declared.held.Met.TheVariants.{Ended}
use Rattle.theory_combine.proofs.Answering.{has_met, spends_all}
use Rattle.theory_combine.proofs.Going.{went_freely}
use Rattle.theory_combine.proofs.pivots.meet_freely.Goals as goal

pub returns-in-Spent-clause-went : goal.returns-in-Spent-clause-went
returns-in-Spent-clause-went c =
    let met = c.meet_bounds-met in
    went_freely c.args.parts.now c.args.progress.now met.new.held c.args.budget.now c.requires.ready.under_way met.ensures.held met.ensures.log met.ensures.sums c.requires.keeps (let r = c.room-spent.ensures in omega arith)

pub returns-in-Spent-clause-met : goal.returns-in-Spent-clause-met
returns-in-Spent-clause-met c =
    let met = c.meet_bounds-met in
    has_met c.args.parts.now c.args.progress.now met.new.held c.args.budget.now Ended c.requires.ready met.ensures.held met.ensures.log met.ensures.sums tt tt

pub returns-in_default-clause-went : goal.returns-in_default-clause-went
returns-in_default-clause-went c =
    let met = c.meet_bounds-met in
    went_freely c.args.parts.now c.args.progress.now met.new.held c.args.budget.now c.requires.ready.under_way met.ensures.held met.ensures.log met.ensures.sums c.requires.keeps (let r = c.room-spent.ensures in omega arith)

pub returns-in_default-clause-met : goal.returns-in_default-clause-met
returns-in_default-clause-met c =
    let met = c.meet_bounds-met in
    has_met c.args.parts.now c.args.progress.now met.new.held c.args.budget.now met.result.met c.requires.ready met.ensures.held met.ensures.log met.ensures.sums met.ensures.met
    (spends_all c.args.budget.now met.result.met (λ e. absurd (c.in_default.not-Spent e)))
