use Rattle.std.proofs.Common.{ℕ, subst}
use Rattle.std.specs.Prelude.{Option}
use Rattle.bound_log.specs.Told.{column_sums}
use Rattle.theory_combine.specs.declared.held.Met.TheVariants.{Conflict, Past, Spent}
use Rattle.theory_combine.specs.declared.step.Step.{Step}
use Rattle.theory_combine.specs.Errors.{IsPastOver}
use Rattle.theory_combine.specs.Numbering.{table_of}
use Rattle.theory_combine.specs.Steps.{IsStep}
use Rattle.theory_combine.specs.Ready.{HasMet, Steps}
use Rattle.theory_combine.proofs.Answering.{left_then, step_before}
use Rattle.theory_combine.proofs.judge.meet_sums.Goals as goal

pub returns-in-Ok-Fits-clause-none : goal.returns-in-Ok-Fits-clause-none
returns-in-Ok-Fits-clause-none c = rw c.in-Ok-Fits.field-0-is at c.in-Ok-Fits.ensures.met

pub returns-in-Ok-Conflict-clause-some : goal.returns-in-Ok-Conflict-clause-some
returns-in-Ok-Conflict-clause-some c =
    let met = c.meet_within in
    let has : HasMet c.args.parts.now c.args.progress.now met.new.progress met.new.budget (Conflict c.in-Ok-Conflict.clause) = rw c.in-Ok-Conflict.field-0-is at c.in-Ok-Conflict.ensures.met in has.met

pub stop_past-requires-clause-under_way : goal.stop_past-requires-clause-under_way
stop_past-requires-clause-under_way c = c.in-Ok-Past.ensures.met.ready.under_way

pub stop_past-requires-clause-past : goal.stop_past-requires-clause-past
stop_past-requires-clause-past c =
    let met = c.meet_within in
    let w = met.new.progress in
    let has : HasMet c.args.parts.now c.args.progress.now w met.new.budget (Past c.in-Ok-Past.grid) = rw c.in-Ok-Past.field-0-is at c.in-Ok-Past.ensures.met in
    subst (λ (o : Option ℕ). IsPastOver (column_sums w.held.bounds) (table_of o w.atoms.atoms) c.in-Ok-Past.grid) has.ready.under_way.2 has.met

pub returns-in-Ok-Past-clause-went : goal.returns-in-Ok-Past-clause-went
returns-in-Ok-Past-clause-went c =
    let met = c.meet_within in
    let stop = c.stop_past in
    let left : Steps c.args.parts.now c.args.progress.now stop.new.progress c.args.budget.now met.new.budget stop.result =
    left_then Step IsStep c.args.parts.now step_before c.args.progress.now met.new.progress stop.new.progress c.args.budget.now met.new.budget met.new.budget stop.result c.in-Ok-Past.ensures.met.same met.ensures.went stop.ensures in
    left.went

pub returns-in-Ok-Past-clause-some : goal.returns-in-Ok-Past-clause-some
returns-in-Ok-Past-clause-some c =
    let met = c.meet_within in
    let stop = c.stop_past in
    let left : Steps c.args.parts.now c.args.progress.now stop.new.progress c.args.budget.now met.new.budget stop.result =
    left_then Step IsStep c.args.parts.now step_before c.args.progress.now met.new.progress stop.new.progress c.args.budget.now met.new.budget met.new.budget stop.result c.in-Ok-Past.ensures.met.same met.ensures.went stop.ensures in
    left.found

pub returns-in-Ok-Spent-clause-some : goal.returns-in-Ok-Spent-clause-some
returns-in-Ok-Spent-clause-some c =
    let met = c.meet_within in
    let has : HasMet c.args.parts.now c.args.progress.now met.new.progress met.new.budget Spent = rw c.in-Ok-Spent.field-0-is at c.in-Ok-Spent.ensures.met in has.spent
