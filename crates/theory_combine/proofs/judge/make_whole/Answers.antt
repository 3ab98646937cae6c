use Rattle.std.proofs.Common.{refl}
use Rattle.theory_combine.specs.declared.step.Step.{Step}
use Rattle.theory_combine.specs.declared.step.Step.TheVariants.{Conflict}
use Rattle.theory_combine.specs.Steps.{IsStep}
use Rattle.theory_combine.proofs.Answering.{held_of, left_now}
use Rattle.theory_combine.proofs.judge.make_whole.Goals as goal

pub meet_wholes-found-requires : goal.meet_wholes-found-requires
meet_wholes-found-requires c = held_of c.args.parts.now c.args.progress.now c.requires.at_last.ready

pub stays-requires : goal.stays-requires
stays-requires c = c.requires.at_last.ready.under_way

pub returns-in-Ok-Some : goal.returns-in-Ok-Some
returns-in-Ok-Some c =
    let w = c.args.progress.now in
    left_now Step IsStep c.args.parts.now w w c.args.budget.now (Conflict c.in-Ok-Some.clause) refl c.requires.at_last.ready.under_way.2 c.stays.ensures (rw c.in-Ok-Some.field-0-is at c.in-Ok-Some.ensures)

pub branch-parts-requires-clause-constants : goal.branch-parts-requires-clause-constants
branch-parts-requires-clause-constants c = rw c.in-Ok-None.field-0-is at c.in-Ok-None.ensures

pub returns-in-Err : goal.returns-in-Err
returns-in-Err c = record { went = c.stays.ensures; found = tt }
